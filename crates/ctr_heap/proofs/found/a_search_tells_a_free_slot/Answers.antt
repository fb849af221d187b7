use Rattle.std.proofs.Common.{None, Some}
use Rattle.ctr_heap.proofs.Telling.{free_told}
use Rattle.ctr_heap.proofs.found.a_search_tells_a_free_slot.Goals as goal

pub returns-clause-found : goal.returns-clause-found
returns-clause-found c = λ pages e bucket counted last at readable few ends. free_told pages e counted last readable few bucket (Some at) ends

pub returns-clause-none : goal.returns-clause-none
returns-clause-none c = λ pages e bucket counted last readable few ends. free_told pages e counted last readable few bucket None ends
