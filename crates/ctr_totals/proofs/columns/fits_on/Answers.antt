use Rattle.std.proofs.Common.{ℕ, ◌%◌, ◌<◌, sym, subst}
use Rattle.std.specs.Prelude.{IfOk}
use Rattle.ctr_walk.specs.redo_States.{page_limit}
use Rattle.ctr_record_effects.specs.States.{pages_in}
use Rattle.ctr_walk.specs.Damage.{searched, EndsOnPage}
use Rattle.ctr_walk.proofs.Limits.{catalog_in_limit}
use Rattle.ctr_walk.proofs.Searches.{ends_there}
use Rattle.ctr_totals.specs.Columns.{ColumnsTold}
use Rattle.ctr_totals.proofs.columns.fits_on.Goals as goal

pub returns-clause-said : goal.returns-clause-said
returns-clause-said g c = λ told sound.
    let n = c.args.entry % 16 in
    let at = c.catalog_page-at.result in
    let limit = subst (λ (p : ℕ). p < page_limit) (sym c.catalog_page-at.ensures) (catalog_in_limit c.args.entry c.requires.there) in
    subst (λ (p : ℕ). IfOk (searched c.found_on.result) (EndsOnPage p (ColumnsTold c.args.counted n (pages_in c.args.store.now.now p)))) c.catalog_page-at.ensures
    (ends_there at (ColumnsTold c.args.counted n) c.fits_in.result c.found_on.result _ _ c.found_on.ensures (c.in_ok-page.ensures.shown told sound limit) c.fits_in.ensures)
