use Rattle.ctr_area.proofs.InEntry.{dropper_written}
use Rattle.ctr_area.proofs.laws.dropper_changes_alone.Goals as goal

pub returns : goal.returns
returns c = λ pages e x few whole drawn. dropper_written pages e few whole x drawn
