use Rattle.std.proofs.Common.{arith}
use Rattle.ctr_area.proofs.Entered.{entry_written}
use Rattle.ctr_area.proofs.laws.entry_changes_alone.Goals as goal

pub returns : goal.returns
returns c = λ pages e new few long fits same. entry_written pages e new few long (omega (arith, fits)) same
