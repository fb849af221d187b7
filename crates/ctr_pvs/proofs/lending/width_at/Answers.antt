use Rattle.std.proofs.Common.{Err, sym, subst}
use Rattle.std.specs.Prelude.{IfOk}
use Rattle.std.proofs.lemmas.Result.{err_from_is_err_and}
use Rattle.ctr_page.specs.Reading.{older_at}
use Rattle.ctr_passed.specs.area_Reading.{columns_on}
use Rattle.ctr_passed.specs.Logged.{IsOlderOf}
use Rattle.ctr_walk.proofs.Entries.{columns_keyed}
use Rattle.ctr_passed.specs.redo_States.{State}
use Rattle.ctr_passed.specs.record_effects_States.{pages_in}
use Rattle.ctr_walk.specs.Damage.{searched, EndsOnPage}
use Rattle.ctr_walk.proofs.Joins.{pages_join}
use Rattle.ctr_walk.proofs.Searches.{passed, by_page}
use Rattle.ctr_pvs.specs.Table.{TableSaid}
use Rattle.ctr_pvs.specs.Reading.{kept_on_check, WidthSaid, version_check_at, EndsAt}
use Rattle.ctr_pvs.proofs.Told.{page_of_table, no_table_first, by_table}
use Rattle.ctr_pvs.proofs.Lent.{version_passes}
use Rattle.ctr_pvs.proofs.lending.width_at.Goals as goal

pub returns-in_err-table-clause-ends : goal.returns-in_err-table-clause-ends
returns-in_err-table-clause-ends g c =
    let p = err_from_is_err_and c.from_residual.result c.from_residual.ensures.1 in
    let s = c.args.store.now.now in
    let q = c.args.place in
    rw (p.1, p.2) (λ told sound.
    passed _ _ c.in_err-table.field-0.0 (TableSaid 2 s.counted (pages_in s) q.page) (EndsAt (version_check_at s.counted (pages_in s) q) (pages_in s) q)
    (no_table_first 2 s.counted (pages_in s) q.page (λ e ks. kept_on_check s.counted e ks q.slot (pages_in s q.page))) (c.in_err-table.ensures.said told sound))

pub returns-clause-ends : goal.returns-clause-ends
returns-clause-ends g c = λ told sound.
    let t = c.in_ok-table.table in
    let n = c.args.store.now.now.counted in
    let pages = pages_in c.args.store.now.now in
    let at = c.args.place in
    let said = c.in_ok-table.ensures.said told sound in
    by_page at.page (WidthSaid n t at.slot (pages at.page)) (EndsAt (version_check_at n pages at) pages at) c.check_kept.result
    (λ w is wide. version_passes n pages at t w said wide)
    (λ bad wrong. by_table 2 n pages at.page t (λ e ks. kept_on_check n e ks at.slot (pages at.page)) (Err bad) said wrong)
    (subst (λ m. IfOk (searched c.check_kept.result) (EndsOnPage at.page (WidthSaid m t at.slot (pages at.page)))) c.counted-counted.ensures
    (subst (λ (s : State). IfOk (searched c.check_kept.result) (EndsOnPage at.page (WidthSaid c.counted-counted.result t at.slot (pages_in s at.page)))) (c.in_ok-table.ensures.leaves.logs told sound).now (c.check_kept.ensures.said told sound)))

pub returns-clause-leaves : goal.returns-clause-leaves
returns-clause-leaves g c =
    pages_join g.D.Disk c.args.store.now c.table_on.new.store c.check_kept.new.store g.O.Origin.first _ _ _ (searched c.check_kept.result) c.in_ok-table.ensures.leaves c.check_kept.ensures.leaves

pub returns-clause-made : goal.returns-clause-made
returns-clause-made g c = λ told sound.
    let n = c.args.store.now.now.counted in
    let pages = pages_in c.args.store.now.now in
    let at = c.args.place in
    let columns = columns_on pages at.page in
    let page = page_of_table 2 n pages at.page c.in_ok-table.table (c.in_ok-table.ensures.said told sound) in
    let keyed = columns_keyed columns (c.in_ok-table.ensures.columns told sound) in
    subst (λ m. IfOk c.check_kept.result (λ w. IsOlderOf m columns (older_at w at.slot (pages at.page)))) c.counted-counted.ensures
    (subst (λ (s : State). IfOk c.check_kept.result (λ w. IsOlderOf c.counted-counted.result columns (older_at w at.slot (pages_in s at.page)))) (c.in_ok-table.ensures.leaves.logs told sound).now
    (c.check_kept.ensures.made told sound columns keyed (sym page.kinds)))
