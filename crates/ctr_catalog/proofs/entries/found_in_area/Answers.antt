use Rattle.ctr_catalog.proofs.Titles.{free_in_area}
use Rattle.ctr_catalog.proofs.entries.found_in_area.Goals as goal

pub returns : goal.returns
returns c = λ pages half from counted found two ends. free_in_area pages half from counted two found ends
