use Rattle.std.proofs.Common.{ℕ, subst}
use Rattle.std.specs.Prelude.{IfOk}
use Rattle.ctr_record_effects.specs.States.{pages_in}
use Rattle.ctr_walk.specs.Damage.{searched, EndsOnPage}
use Rattle.ctr_walk.proofs.Limits.{below_limit}
use Rattle.ctr_walk.proofs.Searches.{ends_there}
use Rattle.ctr_dead.specs.Unlinking.{NextPageSaid}
use Rattle.ctr_dead.proofs.unlinking.next_of.Goals as goal

pub returns-clause-said : goal.returns-clause-said
returns-clause-said g c = λ told sound.
    let p = c.args.p in
    let s = c.args.store.now.now in
    subst (λ (n : ℕ). IfOk (searched c.found_on.result) (EndsOnPage p (NextPageSaid n c.args.chain (pages_in s p)))) c.counted-counted.ensures
    (ends_there p (NextPageSaid c.counted-counted.result c.args.chain) c.next_in.result c.found_on.result _ _ c.found_on.ensures
    (c.in_ok-page.ensures.shown told sound (below_limit p s.counted c.requires.counted c.counts_pages.ensures.1)) c.next_in.ensures.said)
