use Rattle.std.proofs.Common.{◌<◌, ℕ, [], ◌∷◌, subst, arith}
use Rattle.ctr_actions.specs.rec_SlogItem_TheVariants.{CreateOf, DropOf}
use Rattle.ctr_actions.specs.page_Header.{Header}
use Rattle.ctr_actions.specs.record_laws_Owed.{first_page}
use Rattle.ctr_actions.specs.ctr_record_effects.States.{area_in}
use Rattle.ctr_actions.proofs.Latest.{last_among}
use Rattle.ctr_passed.specs.Logged.{IsBlankPage}
use Rattle.ctr_passed.proofs.Owing.{item_inside, entry_few, bucket_few, bucket_counted, versions_counted, unlinked_rows, unlinked_versions, live_used, live_few}
use Rattle.ctr_passed.proofs.owed.owed_records_are_laid_as_their_actions.Goals as goal

-- some page is counted, where one is
some_counted : (p n : ℕ) → p < n → 0 < n
some_counted p n lt = omega (arith, lt)

pub returns-clause-links : goal.returns-clause-links
returns-clause-links c = λ s x p e b sound owed whole blank.
    let few = entry_few s sound e b owed.there in
    let few_buckets = bucket_few s sound e b owed.there in
    let its = item_inside s sound x p owed.item in (
      c.chains_lie_as_their_actions.ensures.links s x p e b whole few few_buckets,
      c.chains_pass_their_checks.ensures.links s x p e b (first_page (area_in s) e b) sound whole few few_buckets its.0 its.1
          (bucket_counted s sound e b (some_counted p s.counted its.1) owed.there)
          (subst (λ (h : Header). IsBlankPage p h s) owed.header blank),
    )

pub returns-clause-links_older : goal.returns-clause-links_older
returns-clause-links_older c = λ s x p e sound owed whole blank.
    let its = item_inside s sound x p owed.item in (
      c.chains_lie_as_their_actions.ensures.links_older s x p e whole owed.there,
      c.chains_pass_their_checks.ensures.links_older s x p e ((area_in s).firsts e).versions sound whole owed.there its.0 its.1
          (versions_counted s sound e (some_counted p s.counted its.1))
          (subst (λ (h : Header). IsBlankPage p h s) owed.header blank),
    )

pub returns-clause-unlinks : goal.returns-clause-unlinks
returns-clause-unlinks c = λ s p e b sound owed whole.
    let next = ((area_in s).header p).next in
    let few = entry_few s sound e b owed.there in
    let few_buckets = bucket_few s sound e b owed.there in (
      c.chains_lie_as_their_actions.ensures.unlinks s p next e b whole few few_buckets,
      c.chains_pass_their_checks.ensures.unlinks s p next e b sound whole few few_buckets (unlinked_rows s sound p e b owed),
    )

pub returns-clause-unlinks_older : goal.returns-clause-unlinks_older
returns-clause-unlinks_older c = λ s p e sound owed whole.
    let next = ((area_in s).header p).next in
    let its = unlinked_versions s sound p e owed in (
      c.chains_lie_as_their_actions.ensures.unlinks_older s p next e whole its.0,
      c.chains_pass_their_checks.ensures.unlinks_older s p next e sound whole its.0 its.1,
    )

pub returns-clause-uncreates : goal.returns-clause-uncreates
returns-clause-uncreates c = λ s x e sound owed whole.
    let live = (sound.sound.names.creates x e (last_among x (CreateOf x e) s.tables.items owed).0).0 in
    let few = live_few s sound e live in (
      c.tables_lie_as_their_actions.ensures.uncreates s e whole few,
      c.tables_pass_their_checks.ensures.uncreates s e sound whole few (live_used s sound e live),
    )

pub returns-clause-undrops : goal.returns-clause-undrops
returns-clause-undrops c = λ s x e sound owed whole.
    let few = live_few s sound e (sound.sound.names.drops x e (last_among x (DropOf x e) s.tables.items owed).0).0 in (
      c.tables_lie_as_their_actions.ensures.undrops s e whole few,
      c.tables_pass_their_checks.ensures.undrops s e sound whole few,
    )

pub returns-clause-drops : goal.returns-clause-drops
returns-clause-drops c = λ s x e sound owed whole. (
  c.tables_lie_as_their_actions.ensures.drops s x e whole owed.inside,
  c.tables_pass_their_checks.ensures.drops s x e sound whole owed.inside,
)

pub returns-clause-makes_dead : goal.returns-clause-makes_dead
returns-clause-makes_dead c = λ s r passes e sound owed whole lays. (
  c.tables_lie_as_their_actions.ensures.makes_dead s r passes e 0 (2 ∷ []) lays whole owed.inside (omega arith),
  c.tables_pass_their_checks.ensures.makes_dead s r passes e sound whole owed.inside (live_used s sound e owed.live) lays,
)
