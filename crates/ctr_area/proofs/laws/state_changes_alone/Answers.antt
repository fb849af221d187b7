use Rattle.ctr_area.proofs.InEntry.{state_written}
use Rattle.ctr_area.proofs.laws.state_changes_alone.Goals as goal

pub returns : goal.returns
returns c = λ pages e s few whole some used. state_written pages e few whole s some used
