use Rattle.std.proofs.Common.{ℕ, ◌≤◌, ◌<◌, sym, subst}
use Rattle.std.specs.Prelude.{IfOk}
use Rattle.ctr_alloc.specs.redo_States.{page_limit}
use Rattle.ctr_alloc.specs.record_effects_States.{pages_in}
use Rattle.ctr_alloc.specs.walk_Damage.{searched, EndsOnPage}
use Rattle.ctr_alloc.proofs.walk_Searches.{ends_there, ok_on}
use Rattle.ctr_catalog.specs.declared.finding.MadeAt.{MadeAt}
use Rattle.ctr_catalog.specs.Finding.{EndsNamed}
use Rattle.ctr_alloc.proofs.walk_Limits.{catalog_in_limit}
use Rattle.ctr_catalog.proofs.finding.named_behind.Goals as goal

pub returns-clause-said : goal.returns-clause-said
returns-clause-said g c = λ told sound.
    let at = c.catalog_page-at.result in
    let limit = subst (λ (p : ℕ). p < page_limit) (sym c.catalog_page-at.ensures) (catalog_in_limit c.args.from c.requires.there) in
    subst (λ (p : ℕ). IfOk (searched c.found_on.result) (EndsOnPage p (EndsNamed c.args.counted c.args.name.now c.args.from (pages_in c.args.store.now.now p)))) c.catalog_page-at.ensures
    (ends_there at (EndsNamed c.args.counted c.args.name.now c.args.from) c.named_from.result c.found_on.result _ _ c.found_on.ensures (c.in_ok-page.ensures.shown told sound limit) c.named_from.ensures.said)

pub returns-clause-inside : goal.returns-clause-inside
returns-clause-inside g c =
    subst (λ r. IfOk r (λ (at : MadeAt). (c.args.from ≤ at.entry) × (at.entry < 32))) (sym c.found_on.ensures)
    (ok_on c.catalog_page-at.result (λ (at : MadeAt). (c.args.from ≤ at.entry) × (at.entry < 32)) c.named_from.result c.named_from.ensures.inside)
