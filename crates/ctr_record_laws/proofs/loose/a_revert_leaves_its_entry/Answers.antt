use Rattle.ctr_record_laws.proofs.Loosened.{revert_leaves, revert_spares}
use Rattle.ctr_record_laws.proofs.loose.a_revert_leaves_its_entry.Goals as goal

pub returns-clause-loose : goal.returns-clause-loose
returns-clause-loose c = revert_leaves

pub returns-clause-spare : goal.returns-clause-spare
returns-clause-spare c = revert_spares
