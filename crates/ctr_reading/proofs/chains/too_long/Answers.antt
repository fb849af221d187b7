use Rattle.std.proofs.Common.{Result, Err}
use Rattle.std.specs.Prelude.{⊤}
use Rattle.ctr_types.specs.declared.memory.OutOfMemory.{OutOfMemory}
use Rattle.ctr_page.specs.declared.walk.BadChain.{BadChain}
use Rattle.ctr_page.specs.declared.walk.BadChain.TheVariants.{TooLong}
use Rattle.ctr_walk.proofs.Damages.{reads_err}
use Rattle.ctr_reading.proofs.Told.{told_ok}
use Rattle.ctr_reading.proofs.chains.too_long.Goals as goal

pub returns-in-Err-clause-leaves : goal.returns-in-Err-clause-leaves
returns-in-Err-clause-leaves g c = λ a read.
    let bad : Result ⊤ BadChain = Err (TooLong c.args.last c.args.most) in
    reads_err g.O.Origin.first g.D.Disk ⊤ (Result ⊤ OutOfMemory) c.in-Err.fault a c.tell.new.store
    (c.in-Err.ensures.leaves a (told_ok g.O.Origin.first g.D.Disk tt bad a c.args.store.now read))
