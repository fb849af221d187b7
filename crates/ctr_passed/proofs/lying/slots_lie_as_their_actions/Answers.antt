use Rattle.ctr_actions.specs.ctr_record_effects.States.{area_in}
use Rattle.ctr_passed.specs.Laid.{slot_size_in}
use Rattle.ctr_passed.proofs.Apart.{place_lies}
use Rattle.ctr_passed.proofs.lying.slots_lie_as_their_actions.Goals as goal

pub returns-clause-writes : goal.returns-clause-writes
returns-clause-writes c = λ s r m bytes. place_lies s r m.at (slot_size_in (area_in s) m.entry) bytes

pub returns-clause-reverts : goal.returns-clause-reverts
returns-clause-reverts c = λ s r e at way bytes. place_lies s r at (slot_size_in (area_in s) e) bytes

pub returns-clause-trims : goal.returns-clause-trims
returns-clause-trims c = λ s r passes e at way bytes. place_lies s r at (slot_size_in (area_in s) e) bytes
