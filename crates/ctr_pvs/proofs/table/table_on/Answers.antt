use Rattle.std.proofs.Common.{◌+◌, ◌/◌, ◌%◌, Ok, subst}
use Rattle.std.specs.Prelude.{IfOk}
use Rattle.std.proofs.lemmas.Result.{err_from_is_err_and, IfOk-at_ok}
use Rattle.ctr_passed.specs.redo_States.{State}
use Rattle.ctr_passed.specs.record_effects_States.{pages_in}
use Rattle.ctr_walk.specs.Damage.{searched, EndsOnPage}
use Rattle.ctr_walk.proofs.Joins.{pages_join}
use Rattle.ctr_walk.proofs.Searches.{without, passed_page, by_page}
use Rattle.ctr_pvs.specs.Table.{KindsSaid, OwnerSaid, TableSaid}
use Rattle.ctr_pvs.proofs.Told.{no_owner, table_named, no_table}
use Rattle.ctr_pvs.proofs.table.table_on.Goals as goal

pub returns-in_err-entry-clause-said : goal.returns-in_err-entry-clause-said
returns-in_err-entry-clause-said g c =
    let p = err_from_is_err_and c.from_residual.result c.from_residual.ensures.1 in
    let kind = c.args.kind in
    let at = c.args.p in
    let n = c.args.store.now.now.counted in
    let pages = pages_in c.args.store.now.now in
    let e = c.in_err-entry.field-0.0 in
    rw (p.1, p.2) (λ told sound.
    passed_page _ _ e at (OwnerSaid kind n at (pages at)) (TableSaid kind n pages at) (no_owner kind n pages at)
    (subst (λ m. IfOk (searched (without _ e)) (EndsOnPage at (OwnerSaid kind m at (pages at)))) c.counted-counted.ensures (c.in_err-entry.ensures.said told sound)))

pub returns-clause-said : goal.returns-clause-said
returns-clause-said g c = λ told sound.
    let kind = c.args.kind in
    let at = c.args.p in
    let e = c.in_ok-entry.entry in
    let n = c.args.store.now.now.counted in
    let pages = pages_in c.args.store.now.now in
    let owner = subst (λ m. OwnerSaid kind m at (pages at) (Ok e)) c.counted-counted.ensures (c.in_ok-entry.ensures.said told sound) in
    by_page (1 + e / 16) (KindsSaid n (e % 16) (pages (1 + e / 16))) (TableSaid kind n pages at) c.table_at.result
    (λ t is. table_named kind n pages at e owner c.in_ok-entry.ensures.few t (IfOk-at_ok _ is c.table_at.ensures.few).1)
    (no_table kind n pages at e owner)
    (subst (λ m. IfOk (searched c.table_at.result) (EndsOnPage (1 + e / 16) (KindsSaid m (e % 16) (pages (1 + e / 16))))) c.counted-counted.ensures
    (subst (λ (s : State). IfOk (searched c.table_at.result) (EndsOnPage (1 + e / 16) (KindsSaid c.counted-counted.result (e % 16) (pages_in s (1 + e / 16))))) (c.in_ok-entry.ensures.leaves.logs told sound).now (c.table_at.ensures.said told sound)))

pub returns-clause-leaves : goal.returns-clause-leaves
returns-clause-leaves g c =
    pages_join g.D.Disk c.args.store.now c.owner_on.new.store c.table_at.new.store g.O.Origin.first _ _ _ (searched c.table_at.result) c.in_ok-entry.ensures.leaves c.table_at.ensures.leaves
