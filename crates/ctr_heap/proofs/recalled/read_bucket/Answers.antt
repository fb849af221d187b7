use Rattle.std.proofs.Common.{Bool, Ok}
use Rattle.std.specs.Prelude.{⊤}
use Rattle.std.proofs.lemmas.Result.{err_from_is_err_and}
use Rattle.ctr_walk.proofs.Joins.{answers_ok, answers_err, pages_join}
use Rattle.ctr_heap.proofs.recalled.read_bucket.Goals as goal

pub returns-in_err-more : goal.returns-in_err-more
returns-in_err-more g c =
    let p = err_from_is_err_and c.from_residual.result c.from_residual.ensures.1 in
    rw (p.1, p.2) (answers_err g.O.Origin.first g.D.Disk {T = ⊤} c.in_err-more.field-0.0 c.args.store.now c.read_on.new.self c.in_err-more.ensures.leaves)

pub loop-init : goal.loop-init
loop-init g c = answers_ok g.O.Origin.first g.D.Disk c.in_ok-more.more tt c.args.store.now c.read_on.new.self c.in_ok-more.ensures.leaves

pub loop-preserved : goal.loop-preserved
loop-preserved g c =
    let d = g.D.Disk in
    let o = g.O.Origin.first in
    let a = c.args.store.now in
    let t = c.read_on-in-loop.new.self in
    answers_ok o d c.in_ok-more-2.more tt a t (pages_join d a c.loop.store t o ⊤ Bool tt (Ok c.in_ok-more-2.more) c.loop.invariant c.in_ok-more-2.ensures.leaves)

pub returns-in_err-more-2 : goal.returns-in_err-more-2
returns-in_err-more-2 g c =
    let d = g.D.Disk in
    let o = g.O.Origin.first in
    let a = c.args.store.now in
    let t = c.read_on-in-loop.new.self in
    let p = err_from_is_err_and c.from_residual-in_err-more-2.result c.from_residual-in_err-more-2.ensures.1 in
    let e = c.in_err-more-2.field-0.0 in
    rw (p.1, p.2) (answers_err o d {T = ⊤} e a t (pages_join d a c.loop.store t o ⊤ Bool tt _ c.loop.invariant c.in_err-more-2.ensures.leaves))
