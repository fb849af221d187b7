use Rattle.ctr_heap.proofs.Sought.{first_in_area}
use Rattle.ctr_heap.proofs.slots.found_in_area.Goals as goal

pub returns : goal.returns
returns c = λ pages p counted sought found rows ends. first_in_area pages p counted sought rows found ends
