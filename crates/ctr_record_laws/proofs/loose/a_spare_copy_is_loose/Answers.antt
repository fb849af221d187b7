use Rattle.ctr_record_laws.proofs.Steady.{copy_loose, loose_copy}
use Rattle.ctr_record_laws.proofs.loose.a_spare_copy_is_loose.Goals as goal

pub returns-clause-loose : goal.returns-clause-loose
returns-clause-loose c = copy_loose

pub returns-clause-spare : goal.returns-clause-spare
returns-clause-spare c = loose_copy
