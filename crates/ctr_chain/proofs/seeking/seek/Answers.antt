use Rattle.std.proofs.Common.{◌≡◌, ◌<◌, Ok, Option, Result, sym, subst}
use Rattle.std.specs.Prelude.{IfOk}
use Rattle.std.proofs.lemmas.Result.{err_from_is_err_and}
use Rattle.ctr_page.specs.declared.walk.BadChain.{BadChain}
use Rattle.ctr_pvs.specs.redo_States.{State}
use Rattle.ctr_pvs.specs.record_effects_States.{pages_in}
use Rattle.ctr_names.specs.meta_Kept.{TablesKept}
use Rattle.ctr_pvs.specs.walk_Damage.{searched}
use Rattle.ctr_pvs.proofs.walk_Joins.{pages_join}
use Rattle.ctr_pvs.proofs.walk_Searches.{passed}
use Rattle.ctr_pvs.specs.Table.{TableSaid}
use Rattle.ctr_chain.specs.declared.seeking.Found.{Found}
use Rattle.ctr_chain.specs.Seeing.{sought_by}
use Rattle.ctr_chain.specs.Seeking.{sought_at}
use Rattle.ctr_chain.proofs.Slots.{no_table}
use Rattle.ctr_chain.proofs.seeking.seek.Goals as goal

pub seek_in-requires-clause-counted : goal.seek_in-requires-clause-counted
seek_in-requires-clause-counted g c = subst (λ n. c.args.place.page < n) (sym c.in_ok-table.ensures.leaves.keeps.counted) c.requires.counted

pub returns-in_err-table-clause-ends : goal.returns-in_err-table-clause-ends
returns-in_err-table-clause-ends g c =
    let p = err_from_is_err_and c.from_residual.result c.from_residual.ensures.1 in
    let s = c.args.store.now.now in
    let at = c.args.place in
    let test = sought_by c.args.store.now.meta.tables c.args.sought.now in
    rw (p.1, p.2) (λ told sound.
    passed _ _ c.in_err-table.field-0.0 (TableSaid 1 s.counted (pages_in s) at.page) (λ r. r ≡ sought_at test s.counted (pages_in s) at)
    (λ bad said. sym (no_table s.counted (pages_in s) at test bad said))
    (c.in_err-table.ensures.said told sound))

pub returns-clause-ends : goal.returns-clause-ends
returns-clause-ends g c = λ told sound.
    let a = c.args.store.now in
    let b = c.table_on.new.store in
    let at = c.args.place in
    let t = c.in_ok-table.table in
    let leaves = c.in_ok-table.ensures.leaves in
    let same = (leaves.logs told sound).now in
    let said = subst (λ (st : State). TableSaid 1 st.counted (pages_in st) at.page (Ok t)) (sym same) (c.in_ok-table.ensures.said told sound) in
    let Ends : TablesKept → State → Type 0 = λ m st. IfOk (searched c.seek_in.result) (λ (r : Result (Option Found) BadChain). r ≡ sought_at (sought_by m.tables c.args.sought.now) st.counted (pages_in st) at) in
    subst (λ (m : TablesKept). Ends m a.now) leaves.keeps.meta
    (subst (λ (st : State). Ends b.meta st) same (c.seek_in.ensures.ends told sound said))

pub returns-clause-leaves : goal.returns-clause-leaves
returns-clause-leaves g c = pages_join g.D.Disk c.args.store.now c.table_on.new.store c.seek_in.new.store g.O.Origin.first _ _ _ (searched c.seek_in.result) c.in_ok-table.ensures.leaves c.seek_in.ensures.leaves
