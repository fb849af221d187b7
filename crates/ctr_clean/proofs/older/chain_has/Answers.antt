use Rattle.std.proofs.Common.{◌≡◌, ℕ, suc, ◌-◌, Ok, refl, ◌∙◌, ap, subst, arith}
use Rattle.std.specs.Prelude.{⊤}
use Rattle.ctr_disk.specs.declared.fault.StoreFault.TheVariants.{Fault}
use Rattle.ctr_pvs.specs.redo_States.{State}
use Rattle.ctr_area.specs.Chains.{older_places}
use Rattle.ctr_area.specs.Sound.{IsAmong}
use Rattle.ctr_record_effects.specs.States.{area_in}
use Rattle.ctr_record_effects.specs.Standing.{IsDatabaseState}
use Rattle.ctr_pvs.proofs.walk_Damages.{reads_err, reads_behind}
use Rattle.ctr_pvs.proofs.walk_Joins.{pages_join, answers_ok}
use Rattle.ctr_clean.specs.declared.older.OlderFacts.{OlderFacts}
use Rattle.ctr_clean.specs.declared.older.ChainFound.{ChainFound}
use Rattle.ctr_clean.proofs.Resting.{rests_read}
use Rattle.ctr_clean.proofs.Along.{IsOnWay, at_start, kept_here, found_here, goes_on, ends_here, is_far}
use Rattle.ctr_clean.proofs.older.chain_has.Goals as goal

-- one step is left, and more
one_more : (n : ℕ) → (n ≡ 0 → ⊥) → n ≡ suc (n - 1)
one_more n some = omega (arith, some)

pub loop-left-init : goal.loop-left-init
loop-left-init g c = (rests_read g.O.Origin.first g.D.Disk c.args.store.now tt (λ told sound. c.rests.ensures told sound c.requires.going) c.requires.going, λ told sound. at_start (area_in c.args.store.now.now) c.args.from c.args.sought)

pub returns-then-at-eq0-clause-tells : goal.returns-then-at-eq0-clause-tells
returns-then-at-eq0-clause-tells g c = λ e key told sound database leads. ends_here (area_in c.args.store.now.now) c.args.from c.loop-left.at c.args.sought c.loop-left.left c.if-at-eq0.true (c.loop-left.invariant.1 told sound)

pub returns-then-at-counted-clause-tells : goal.returns-then-at-counted-clause-tells
returns-then-at-counted-clause-tells g c = λ e key told sound database leads.
    let s = c.args.store.now.now in
    let area = area_in s in
    let at = c.loop-left.at in
    let n = c.loop-left.left in
    let way = subst (IsOnWay area c.args.from at c.args.sought) (one_more n c.loop-left-test.true) (c.loop-left.invariant.1 told sound) in
    let kept = kept_here area c.args.from at c.args.sought (n - 1) c.if-at-eq0.false way e key leads in
    let inside = (c.a_place_of_a_table_fits.ensures.versions s e at database kept.0).4 in
    let same : c.counted.result ≡ s.counted = c.counted.ensures ∙ ap (λ (u : State). u.counted) (c.loop-left.invariant.0.logs told sound).now in
    absurd (omega (arith, inside, same, c.if-at-counted.true))

pub returns-then-is_place-clause-tells : goal.returns-then-is_place-clause-tells
returns-then-is_place-clause-tells g c = λ e key told sound database leads.
    let area = area_in c.args.store.now.now in
    let at = c.loop-left.at in
    let n = c.loop-left.left in
    let way = subst (IsOnWay area c.args.from at c.args.sought) (one_more n c.loop-left-test.true) (c.loop-left.invariant.1 told sound) in
    found_here area c.args.from at c.args.sought (n - 1) c.if-at-eq0.false way e key leads (c.if-is_place.ensures.yes refl)

pub returns-in-Err-clause-leaves : goal.returns-in-Err-clause-leaves
returns-in-Err-clause-leaves g c =
    let first = g.O.Origin.first in
    let mid = c.loop-left.store in
    let new = c.look_older.new.store in
    reads_behind first g.D.Disk ChainFound tt c.args.store.now mid new c.in-Err.fault c.loop-left.invariant.0 (reads_err first g.D.Disk OlderFacts ⊤ c.in-Err.fault mid new c.in-Err.ensures.leaves)

pub returns-in-Err-clause-refused : goal.returns-in-Err-clause-refused
returns-in-Err-clause-refused g c = λ e key told sound database leads.
    let area = area_in c.args.store.now.now in
    let at = c.loop-left.at in
    let n = c.loop-left.left in
    let way = subst (IsOnWay area c.args.from at c.args.sought) (one_more n c.loop-left-test.true) (c.loop-left.invariant.1 told sound) in
    let kept = kept_here area c.args.from at c.args.sought (n - 1) c.if-at-eq0.false way e key leads in
    subst (λ (u : State). IsDatabaseState u → IsAmong at (older_places (area_in u) e) → c.in-Err.fault ≡ Fault) (c.loop-left.invariant.0.logs told sound).now (c.in-Err.ensures.refused e told sound) database kept.0

pub loop-left-preserved : goal.loop-left-preserved
loop-left-preserved g c =
    let first = g.O.Origin.first in
    let a = c.args.store.now in
    let mid = c.loop-left.store in
    let new = c.look_older.new.store in
    let area = area_in a.now in
    let at = c.loop-left.at in
    let n = c.loop-left.left in
    let facts = c.in-Ok.facts in (
      answers_ok first g.D.Disk facts tt a new (pages_join g.D.Disk a mid new first ⊤ OlderFacts tt (Ok facts) c.loop-left.invariant.0 c.in-Ok.ensures.leaves),
      λ told sound.
          let way = subst (IsOnWay area c.args.from at c.args.sought) (one_more n c.loop-left-test.true) (c.loop-left.invariant.1 told sound) in
          goes_on area c.args.from at c.args.sought (n - 1) c.if-at-eq0.false way (c.if-is_place.ensures.no refl) facts.next
          (subst (λ (u : State). ((area_in u).older at).pointer ≡ facts.next) (c.loop-left.invariant.0.logs told sound).now (c.in-Ok.ensures.tells told sound).next),
    )

pub returns-then-at-eq0-2-clause-tells : goal.returns-then-at-eq0-2-clause-tells
returns-then-at-eq0-2-clause-tells g c = λ e key told sound database leads. ends_here (area_in c.args.store.now.now) c.args.from c.loop-left.at c.args.sought c.loop-left.left c.if-at-eq0-2.true (c.loop-left.invariant.1 told sound)

pub returns-else-at-eq0-2-clause-tells : goal.returns-else-at-eq0-2-clause-tells
returns-else-at-eq0-2-clause-tells g c = λ e key told sound database leads.
    let area = area_in c.args.store.now.now in
    let at = c.loop-left.at in
    is_far area c.args.from at c.args.sought c.if-at-eq0-2.false
    (subst (IsOnWay area c.args.from at c.args.sought) c.loop-left-test.false (c.loop-left.invariant.1 told sound))
