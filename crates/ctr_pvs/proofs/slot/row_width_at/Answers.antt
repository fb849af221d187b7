use Rattle.std.proofs.Common.{Err, sym, subst}
use Rattle.std.specs.Prelude.{IfOk}
use Rattle.std.proofs.lemmas.Result.{err_from_is_err_and}
use Rattle.ctr_page.specs.Reading.{slot_at}
use Rattle.ctr_passed.specs.area_Reading.{columns_on}
use Rattle.ctr_passed.specs.Logged.{IsSlotOf}
use Rattle.ctr_walk.proofs.Entries.{columns_keyed}
use Rattle.ctr_passed.specs.redo_States.{State}
use Rattle.ctr_passed.specs.record_effects_States.{pages_in}
use Rattle.ctr_walk.specs.Damage.{searched, EndsOnPage}
use Rattle.ctr_walk.proofs.Joins.{pages_join}
use Rattle.ctr_walk.proofs.Searches.{passed, by_page}
use Rattle.ctr_pvs.specs.Table.{TableSaid}
use Rattle.ctr_pvs.specs.Reading.{row_on_check, row_check_at}
use Rattle.ctr_pvs.specs.Slots.{RowWidthSaid, EndsRowAt}
use Rattle.ctr_pvs.proofs.Told.{page_of_table, no_table_first, by_table}
use Rattle.ctr_pvs.proofs.LentSlots.{slot_passes}
use Rattle.ctr_pvs.proofs.slot.row_width_at.Goals as goal

pub returns-in_err-table-clause-ends : goal.returns-in_err-table-clause-ends
returns-in_err-table-clause-ends g c =
    let p = err_from_is_err_and c.from_residual.result c.from_residual.ensures.1 in
    let s = c.args.store.now.now in
    let q = c.args.place in
    rw (p.1, p.2) (λ told sound.
    passed _ _ c.in_err-table.field-0.0 (TableSaid 1 s.counted (pages_in s) q.page) (EndsRowAt (row_check_at s.counted (pages_in s) q) (pages_in s) q)
    (no_table_first 1 s.counted (pages_in s) q.page (λ e ks. row_on_check s.counted e ks q.slot (pages_in s q.page))) (c.in_err-table.ensures.said told sound))

pub returns-clause-ends : goal.returns-clause-ends
returns-clause-ends g c = λ told sound.
    let t = c.in_ok-table.table in
    let n = c.args.store.now.now.counted in
    let pages = pages_in c.args.store.now.now in
    let at = c.args.place in
    let said = c.in_ok-table.ensures.said told sound in
    by_page at.page (RowWidthSaid n t at.slot (pages at.page)) (EndsRowAt (row_check_at n pages at) pages at) c.check_row.result
    (λ w is wide. slot_passes n pages at t w said wide)
    (λ bad wrong. by_table 1 n pages at.page t (λ e ks. row_on_check n e ks at.slot (pages at.page)) (Err bad) said wrong)
    (subst (λ m. IfOk (searched c.check_row.result) (EndsOnPage at.page (RowWidthSaid m t at.slot (pages at.page)))) c.counted-counted.ensures
    (subst (λ (s : State). IfOk (searched c.check_row.result) (EndsOnPage at.page (RowWidthSaid c.counted-counted.result t at.slot (pages_in s at.page)))) (c.in_ok-table.ensures.leaves.logs told sound).now (c.check_row.ensures.said told sound)))

pub returns-clause-leaves : goal.returns-clause-leaves
returns-clause-leaves g c =
    pages_join g.D.Disk c.args.store.now c.table_on.new.store c.check_row.new.store g.O.Origin.first _ _ _ (searched c.check_row.result) c.in_ok-table.ensures.leaves c.check_row.ensures.leaves

pub returns-clause-made : goal.returns-clause-made
returns-clause-made g c = λ told sound.
    let n = c.args.store.now.now.counted in
    let pages = pages_in c.args.store.now.now in
    let at = c.args.place in
    let columns = columns_on pages at.page in
    let page = page_of_table 1 n pages at.page c.in_ok-table.table (c.in_ok-table.ensures.said told sound) in
    let keyed = columns_keyed columns (c.in_ok-table.ensures.columns told sound) in
    subst (λ m. IfOk c.check_row.result (λ w. IsSlotOf m columns (slot_at w at.slot (pages at.page)))) c.counted-counted.ensures
    (subst (λ (s : State). IfOk c.check_row.result (λ w. IsSlotOf c.counted-counted.result columns (slot_at w at.slot (pages_in s at.page)))) (c.in_ok-table.ensures.leaves.logs told sound).now
    (c.check_row.ensures.made told sound columns keyed (sym page.kinds)))
