use Rattle.ctr_record_laws.proofs.Loosened.{trim_leaves, cut_leaves}
use Rattle.ctr_record_laws.proofs.loose.a_trim_leaves_its_entries.Goals as goal

pub returns-clause-slot : goal.returns-clause-slot
returns-clause-slot c = trim_leaves

pub returns-clause-entry : goal.returns-clause-entry
returns-clause-entry c = λ passes counted tables area e at p q sound owed behind. cut_leaves passes area e at p owed counted tables sound q behind
