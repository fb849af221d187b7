use Rattle.std.proofs.Common.{◌≡◌, ℕ, ◌%◌, ◌<◌, List, sym, ◌∙◌, ap, subst}
use Rattle.std.specs.Prelude.{IfOk}
use Rattle.ctr_passed.specs.redo_States.{page_limit}
use Rattle.ctr_page.specs.ctr_value.Columns.{ColumnsFit}
use Rattle.ctr_page.specs.Columns.{entry_at, columns_in}
use Rattle.ctr_passed.specs.area_Reading.{entry_bytes}
use Rattle.ctr_passed.specs.record_effects_States.{pages_in, area_in}
use Rattle.ctr_walk.specs.declared.table.TableOf.{TableOf}
use Rattle.ctr_walk.proofs.Said.{bytes_of_entry}
use Rattle.ctr_pvs.proofs.Made.{found_still}
use Rattle.ctr_walk.specs.Damage.{searched, EndsOnPage}
use Rattle.ctr_walk.proofs.Limits.{catalog_in_limit}
use Rattle.ctr_walk.proofs.Searches.{ends_there}
use Rattle.ctr_pvs.specs.Table.{KindsSaid}
use Rattle.ctr_pvs.proofs.table.table_at.Goals as goal

pub returns-clause-said : goal.returns-clause-said
returns-clause-said g c = λ told sound.
    let n = c.args.entry % 16 in
    let at = c.catalog_page-at.result in
    let limit = subst (λ (p : ℕ). p < page_limit) (sym c.catalog_page-at.ensures) (catalog_in_limit c.args.entry c.requires.there) in
    subst (λ (p : ℕ). IfOk (searched c.found_on.result) (EndsOnPage p (KindsSaid c.args.counted n (pages_in c.args.store.now.now p)))) c.catalog_page-at.ensures
    (ends_there at (KindsSaid c.args.counted n) c.table_in.result c.found_on.result _ _ c.found_on.ensures (c.in_ok-page.ensures.shown told sound limit) c.table_in.ensures.said)

pub returns-clause-columns : goal.returns-clause-columns
returns-clause-columns g c = λ told sound.
    let e = c.args.entry in
    let n = e % 16 in
    let at = c.catalog_page-at.result in
    let pages = pages_in c.args.store.now.now in
    let limit = subst (λ (p : ℕ). p < page_limit) (sym c.catalog_page-at.ensures) (catalog_in_limit e c.requires.there) in
    let P : TableOf → Type 0 = λ t. ColumnsFit ((area_in c.args.store.now.now).title e).columns in
    let here : (entry_at n c.in_ok-page.page.now).bytes ≡ entry_bytes pages e =
    ap (λ (l : List ℕ). (entry_at n l).bytes) (c.in_ok-page.ensures.shown told sound limit ∙ ap pages c.catalog_page-at.ensures) ∙ sym (bytes_of_entry pages e c.requires.there) in
    subst (λ f. IfOk f P) (sym c.found_on.ensures)
    (found_still at P c.table_in.result (subst (λ (l : List ℕ). IfOk c.table_in.result (λ t. ColumnsFit (columns_in l))) here c.table_in.ensures.columns))
