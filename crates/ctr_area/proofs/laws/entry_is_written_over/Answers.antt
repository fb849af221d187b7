use Rattle.std.proofs.Common.{arith}
use Rattle.ctr_area.proofs.Entered.{entry_made}
use Rattle.ctr_area.proofs.laws.entry_is_written_over.Goals as goal

pub returns : goal.returns
returns c = λ pages e new few long whole. entry_made pages e new few long (omega (arith, whole))
