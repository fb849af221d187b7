use Rattle.ctr_area.proofs.Marked.{bit_written}
use Rattle.ctr_area.proofs.laws.bit_changes_alone.Goals as goal

pub returns : goal.returns
returns c = bit_written
