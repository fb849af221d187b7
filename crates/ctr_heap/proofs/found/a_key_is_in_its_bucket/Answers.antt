use Rattle.ctr_heap.proofs.Keyed.{key_found, key_absent}
use Rattle.ctr_heap.proofs.found.a_key_is_in_its_bucket.Goals as goal

pub returns-clause-found : goal.returns-clause-found
returns-clause-found c = key_found

pub returns-clause-absent : goal.returns-clause-absent
returns-clause-absent c = key_absent
