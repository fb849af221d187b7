use Rattle.std.proofs.Common.{Bool, Ok, Err}
use Rattle.std.specs.Prelude.{⊤}
use Rattle.ctr_walk.proofs.Joins.{answers_ok, pages_join}
use Rattle.ctr_pass.proofs.reading.read_bucket.Goals as goal

pub loop-preserved : goal.loop-preserved
loop-preserved g c =
    let d = g.D.Disk in
    let o = g.O.Origin.first in
    let a = c.args.store.now in
    let t = c.read_on.new.self in
    (answers_ok o d c.in-Ok.left tt a t (pages_join d a c.loop.store t o ⊤ Bool tt (Ok c.in-Ok.left) c.loop.invariant.0 c.in-Ok.ensures.leaves), λ more. c.loop.invariant.1 c.if-not-more.false)

pub returns-in-Err-clause-leaves : goal.returns-in-Err-clause-leaves
returns-in-Err-clause-leaves g c =
    pages_join g.D.Disk c.args.store.now c.loop.store c.read_on.new.self g.O.Origin.first ⊤ Bool tt (Err c.in-Err.fault) c.loop.invariant.0 c.in-Err.ensures.leaves
