use Rattle.std.proofs.Common.{length}
use Rattle.ctr_disk.specs.Crash.{Tears}
use Rattle.ctr_disk.specs.Device.{LeavesOnly}
use Rattle.ctr_disk.specs.TornLaws.{torn_nothing}
use Rattle.ctr_disk.proofs.Moments.{starts, goes_on}
use Rattle.ctr_disk.proofs.through.write_through.Given.{Over}
use Rattle.ctr_disk.proofs.through.write_through.Goals.{After-write}
use Rattle.ctr_disk.proofs.through.write_through.Goals as goal

-- when the write has ended
torn : (g : Over) (c : After-write g) → LeavesOnly g.D.Disk c.args.disk.now c.write.new.self (Tears c.args.file c.args.at (length c.args.bytes.now) (g.D.Disk.images c.args.disk.now))
torn g c =
    let d = g.D.Disk in
    let old = c.args.disk.now in
    let tears = Tears c.args.file c.args.at (length c.args.bytes.now) (d.images old) in
    goes_on d old old c.write.new.self tears (d.images c.write.new.self) (starts d old tears (d.images old) (g.met.D.Disk.only_now old) (λ i is. (i, is, torn_nothing _ _ _ i))) c.write.ensures.time c.write.ensures.crash

pub returns-in_err-write-clause-any_moment : goal.returns-in_err-write-clause-any_moment
returns-in_err-write-clause-any_moment g c = torn g (goal.at.returns-in_err-write-clause-any_moment g c).After-write

pub returns-clause-any_moment : goal.returns-clause-any_moment
returns-clause-any_moment g c =
    let images = g.D.Disk.images in
    goes_on g.D.Disk c.args.disk.now c.write.new.self c.sync.new.self (Tears c.args.file c.args.at (length c.args.bytes.now) (images c.args.disk.now)) (images c.sync.new.self)
    (torn g (goal.at.returns-clause-any_moment g c).After-write) c.sync.ensures.time (λ i is. c.write.ensures.crash i (c.sync.ensures.crash i is))
