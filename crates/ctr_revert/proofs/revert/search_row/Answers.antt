use Rattle.std.proofs.Common.{Result, Ok, Err, sym, ◌∙◌, ap, subst}
use Rattle.std.specs.Prelude.{⊤, IsTrue, IfOk}
use Rattle.std.proofs.lemmas.Result.{err_from_is_err_and}
use Rattle.ctr_bytes.specs.Following.{◌>>=◌}
use Rattle.ctr_pvs.specs.redo_States.{State}
use Rattle.ctr_pvs.specs.base_Base.{IsSoundImage}
use Rattle.ctr_page.specs.declared.walk.BadChain.{BadChain}
use Rattle.ctr_page.specs.Columns.{kinds_width}
use Rattle.ctr_pvs.specs.record_effects_States.{pages_in}
use Rattle.ctr_pvs.specs.store_Store.{LeavesPage}
use Rattle.ctr_pvs.specs.walk_Damage.{searched, EndsOnPage}
use Rattle.ctr_pvs.proofs.walk_Joins.{answers_ok, pages_join}
use Rattle.ctr_pvs.proofs.walk_Searches.{without, passed, passed_page, leaves_without, leaves_behind}
use Rattle.ctr_pvs.specs.Table.{owner_of, TableSaid}
use Rattle.ctr_pvs.specs.Reading.{row_on_check}
use Rattle.ctr_pvs.proofs.Told.{no_table_first, by_table}
use Rattle.ctr_revert.specs.Reverting.{row_slot_at, behind_check, SlotSaidFrom, BytesSaid, EndsRow}
use Rattle.ctr_revert.proofs.Headless.{ends_row, row_passed}
use Rattle.ctr_revert.proofs.revert.search_row.Given.{Over}
use Rattle.ctr_revert.proofs.revert.search_row.Goals.{After-bytes_behind}
use Rattle.ctr_revert.proofs.revert.search_row.Goals as goal

-- Behind the slot: it was read, and what it says, by the pages of the beginning.
module _ (g : Over) (c : After-bytes_behind g) where
  row_read : LeavesPage {T = ⊤} g.O.Origin.first g.D.Disk c.args.store.now c.look_slot.new.store (Ok tt)
  row_read = answers_ok g.O.Origin.first g.D.Disk _ tt c.args.store.now c.look_slot.new.store
      (pages_join g.D.Disk c.args.store.now c.table_on.new.store c.look_slot.new.store g.O.Origin.first _ _ _ (searched (Ok c.in_ok-from.from)) c.in_ok-table.ensures.leaves c.in_ok-from.ensures.leaves)

  here : IsTrue g.D.Disk.tells → IsSoundImage g.O.Origin.first → SlotSaidFrom c.args.store.now.now.counted c.in_ok-table.table c.args.place (pages_in c.args.store.now.now c.args.place.page) (Ok c.in_ok-from.from)
  here told sound = subst (λ m. SlotSaidFrom m c.in_ok-table.table c.args.place (pages_in c.args.store.now.now c.args.place.page) (Ok c.in_ok-from.from)) c.counted-counted.ensures
      (subst (λ (s : State). SlotSaidFrom c.counted-counted.result c.in_ok-table.table c.args.place (pages_in s c.args.place.page) (Ok c.in_ok-from.from)) (c.in_ok-table.ensures.leaves.logs told sound).now (c.in_ok-from.ensures.said told sound))

  found : IsTrue g.D.Disk.tells → IsSoundImage g.O.Origin.first → IfOk (searched c.bytes_behind.result) (BytesSaid c.args.store.now.now.counted (pages_in c.args.store.now.now) c.in_ok-table.table c.in_ok-from.from)
  found told sound = subst (λ m. IfOk (searched c.bytes_behind.result) (BytesSaid m (pages_in c.args.store.now.now) c.in_ok-table.table c.in_ok-from.from)) c.counted-counted.ensures
      (subst (λ (s : State). IfOk (searched c.bytes_behind.result) (BytesSaid c.counted-counted.result (pages_in s) c.in_ok-table.table c.in_ok-from.from)) (row_read.logs told sound).now (c.bytes_behind.ensures.ends told sound))

pub returns-in_err-table-clause-ends : goal.returns-in_err-table-clause-ends
returns-in_err-table-clause-ends g c =
    let p = err_from_is_err_and c.from_residual.result c.from_residual.ensures.1 in
    let s = c.args.store.now.now in
    let q = c.args.place in
    rw (p.1, p.2) (λ told sound.
    passed _ _ c.in_err-table.field-0.0 (TableSaid 1 s.counted (pages_in s) q.page) (EndsRow s.counted (pages_in s) q)
    (λ bad said. ap (λ (r : Result ⊤ BadChain). r >>= λ _. behind_check s.counted (pages_in s) (owner_of ((pages_in s) q.page)) (row_slot_at (pages_in s) q).previous (row_slot_at (pages_in s) q).older)
    (no_table_first 1 s.counted (pages_in s) q.page (λ e ks. row_on_check s.counted e ks q.slot ((pages_in s) q.page)) bad said))
    (c.in_err-table.ensures.said told sound))

pub returns-in_err-from-clause-ends : goal.returns-in_err-from-clause-ends
returns-in_err-from-clause-ends g c =
    let p = err_from_is_err_and c.from_residual-in_err-from.result c.from_residual-in_err-from.ensures.1 in
    let t = c.in_ok-table.table in
    let s = c.args.store.now.now in
    let q = c.args.place in
    let e = c.in_err-from.field-0.0 in
    rw (p.1, p.2) (λ told sound.
    passed_page _ _ e q.page (SlotSaidFrom s.counted t q ((pages_in s) q.page)) (EndsRow s.counted (pages_in s) q)
    (λ bad wrong. ap (λ (r : Result ⊤ BadChain). r >>= λ _. behind_check s.counted (pages_in s) (owner_of ((pages_in s) q.page)) (row_slot_at (pages_in s) q).previous (row_slot_at (pages_in s) q).older)
    (by_table 1 s.counted (pages_in s) q.page t (λ e ks. row_on_check s.counted e ks q.slot ((pages_in s) q.page)) (Err bad) (c.in_ok-table.ensures.said told sound) wrong))
    (subst (λ m. IfOk (searched (without _ e)) (EndsOnPage q.page (SlotSaidFrom m t q ((pages_in s) q.page)))) c.counted-counted.ensures
    (subst (λ (u : State). IfOk (searched (without _ e)) (EndsOnPage q.page (SlotSaidFrom c.counted-counted.result t q (pages_in u q.page)))) (c.in_ok-table.ensures.leaves.logs told sound).now (c.in_err-from.ensures.said told sound))))

pub returns-in_err-from-clause-leaves : goal.returns-in_err-from-clause-leaves
returns-in_err-from-clause-leaves g c =
    let p = err_from_is_err_and c.from_residual-in_err-from.result c.from_residual-in_err-from.ensures.1 in
    rw (p.1, p.2) (leaves_behind g.O.Origin.first g.D.Disk _ _ _ c.in_err-from.field-0.0 c.args.store.now c.table_on.new.store c.look_slot.new.store c.in_ok-table.ensures.leaves c.in_err-from.ensures.leaves)

pub returns-in_err-bytes-clause-ends : goal.returns-in_err-bytes-clause-ends
returns-in_err-bytes-clause-ends g c =
    let p = err_from_is_err_and c.from_residual-in_err-bytes.result c.from_residual-in_err-bytes.ensures.1 in
    let k = (goal.at.returns-in_err-bytes-clause-ends g c).After-bytes_behind in
    let t = c.in_ok-table.table in
    let n = c.args.store.now.now.counted in
    let pages = pages_in c.args.store.now.now in
    let e = c.in_err-bytes.field-0.0 in
    rw (p.1, p.2) (λ told sound.
    passed _ _ e (BytesSaid n pages t c.in_ok-from.from) (EndsRow n pages c.args.place)
    (λ bad ends. sym (ends_row n pages c.args.place t c.in_ok-from.from (c.in_ok-table.ensures.said told sound) (here g k told sound) (Err bad) ends))
    (subst (λ r. IfOk (searched r) (BytesSaid n pages t c.in_ok-from.from)) c.in_err-bytes.was (found g k told sound)))

pub returns-in_err-bytes-clause-leaves : goal.returns-in_err-bytes-clause-leaves
returns-in_err-bytes-clause-leaves g c =
    let p = err_from_is_err_and c.from_residual-in_err-bytes.result c.from_residual-in_err-bytes.ensures.1 in
    rw (p.1, p.2) (leaves_without g.O.Origin.first g.D.Disk _ _ c.in_err-bytes.field-0.0 c.args.store.now c.bytes_behind.new.store
    (c.in_err-bytes.ensures.leaves c.args.store.now (row_read g (goal.at.returns-in_err-bytes-clause-leaves g c).After-bytes_behind)))

pub returns-clause-ends : goal.returns-clause-ends
returns-clause-ends g c = λ told sound.
    let k = (goal.at.returns-clause-ends g c).After-bytes_behind in
    let t = c.in_ok-table.table in
    let n = c.args.store.now.now.counted in
    let pages = pages_in c.args.store.now.now in
    row_passed n pages c.args.place t c.in_ok-from.from (c.in_ok-table.ensures.said told sound) (here g k told sound) c.in_ok-bytes.bytes c.kinds_width.result (c.kinds_width.ensures.value ∙ ap kinds_width c.kinds.ensures.value)
    (subst (λ r. IfOk (searched r) (BytesSaid n pages t c.in_ok-from.from)) c.in_ok-bytes.was (found g k told sound))

pub returns-clause-leaves : goal.returns-clause-leaves
returns-clause-leaves g c =
    answers_ok g.O.Origin.first g.D.Disk _ _ c.args.store.now c.bytes_behind.new.store
    (c.in_ok-bytes.ensures.leaves c.args.store.now (row_read g (goal.at.returns-clause-leaves g c).After-bytes_behind))
