use Rattle.ctr_print.proofs.Joins.{finished}
use Rattle.ctr_print.proofs.printer.Printer.finish.Goals as goal

pub returns : goal.returns
returns g c = λ start text at. finished (rw c.as_slice.ensures.value at c.send.ensures) at
