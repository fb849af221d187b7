use Rattle.std.proofs.Common.{None, Some}
use Rattle.ctr_heap.proofs.Telling.{key_told}
use Rattle.ctr_heap.proofs.found.a_search_tells_the_key.Goals as goal

pub returns-clause-found : goal.returns-clause-found
returns-clause-found c = λ pages e counted last key at readable few ends. key_told pages e counted last readable few key (Some at) ends

pub returns-clause-absent : goal.returns-clause-absent
returns-clause-absent c = λ pages e counted last key readable keyed few ends. key_told pages e counted last readable few key None ends keyed
