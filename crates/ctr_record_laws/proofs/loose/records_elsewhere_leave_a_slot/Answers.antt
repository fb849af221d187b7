use Rattle.std.proofs.Common.{refl}
use Rattle.ctr_record_laws.proofs.Still.{another_slot}
use Rattle.ctr_record_laws.proofs.loose.records_elsewhere_leave_a_slot.Goals as goal

pub returns-clause-slot : goal.returns-clause-slot
returns-clause-slot c = another_slot

pub returns-clause-older : goal.returns-clause-older
returns-clause-older c = λ area e at p older used. record { used = used; same = refl }
