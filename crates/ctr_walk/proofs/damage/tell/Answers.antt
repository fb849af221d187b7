use Rattle.std.proofs.Common.{Err, subst}
use Rattle.ctr_store.specs.Store.{LeavesPage}
use Rattle.ctr_walk.specs.Damage.{searched}
use Rattle.ctr_walk.proofs.Damages.{reads, reads_err, reads_behind}
use Rattle.ctr_walk.proofs.damage.tell.Goals as goal

pub returns-in-Bad-clause-leaves : goal.returns-in-Bad-clause-leaves
returns-in-Bad-clause-leaves g c = λ a one.
    let o = g.O.Origin.first in
    let d = g.D.Disk in
    reads_behind o d _ _ a c.args.store.now c.damage.new.store c.damage.result
    (subst (λ f. LeavesPage o d a c.args.store.now (searched {T = g.row.T.Denot} (Err f))) c.in-Bad.is (subst (λ r. LeavesPage o d a c.args.store.now (searched r)) c.in-Err.is one)) c.damage.ensures.leaves

pub returns-in-Store-clause-leaves : goal.returns-in-Store-clause-leaves
returns-in-Store-clause-leaves g c = λ a one.
    let o = g.O.Origin.first in
    let b = c.args.store.now in
    let e = c.in-Store.fault in
    let whole = subst (λ r. LeavesPage o g.D.Disk a b (searched {T = g.row.T.Denot} r)) c.in-Err.is one in
    let left = subst (λ f. LeavesPage o g.D.Disk a b (searched {T = g.row.T.Denot} (Err f))) c.in-Store.is whole in
    reads_err o g.D.Disk _ g.row.T.Denot e a b (reads o g.D.Disk (Err e) a b left)
