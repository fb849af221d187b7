use Rattle.std.proofs.Common.{ℕ, List, sym, subst}
use Rattle.std.specs.Prelude.{IfOk}
use Rattle.ctr_page.specs.Reading.{older_at}
use Rattle.ctr_passed.specs.Logged.{IsOlderOf}
use Rattle.ctr_passed.specs.record_effects_States.{pages_in}
use Rattle.ctr_pvs.proofs.Made.{found_still}
use Rattle.ctr_walk.proofs.Limits.{in_limit}
use Rattle.ctr_walk.proofs.Searches.{ends_there}
use Rattle.ctr_pvs.specs.Reading.{WidthSaid}
use Rattle.ctr_pvs.proofs.lending.check_kept.Goals as goal

pub returns-clause-said : goal.returns-clause-said
returns-clause-said g c = λ told sound.
    let at = c.args.place in
    ends_there at.page (WidthSaid c.args.counted c.args.table.now at.slot) c.width_in.result c.found_on.result _ _ c.found_on.ensures (c.in_ok-page.ensures.shown told sound (in_limit at.page c.requires.there)) c.width_in.ensures.said

pub returns-clause-made : goal.returns-clause-made
returns-clause-made g c = λ told sound columns keyed are.
    let at = c.args.place in
    let shown = c.in_ok-page.ensures.shown told sound (in_limit at.page c.requires.there) in
    let P : ℕ → Type 0 = λ w. IsOlderOf c.args.counted columns (older_at w at.slot (pages_in c.args.store.now.now at.page)) in
    subst (λ f. IfOk f P) (sym c.found_on.ensures)
    (found_still at.page P c.width_in.result
    (subst (λ (l : List ℕ). IfOk c.width_in.result (λ w. IsOlderOf c.args.counted columns (older_at w at.slot l))) shown (c.width_in.ensures.made columns keyed are)))
