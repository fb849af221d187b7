use Rattle.ctr_names.proofs.Dying.{dying_set, dying_same}
use Rattle.ctr_names.proofs.records.a_dying_table_shows_the_same.Goals as goal

pub returns-clause-chain : goal.returns-clause-chain
returns-clause-chain c = λ mark e tables area owed. dying_set tables area e owed.live

pub returns-clause-same : goal.returns-clause-same
returns-clause-same c = λ counted low mark e tables area number sound some agree old owed. dying_same counted low mark e tables area number (λ x. Unit {0}) sound some agree old owed
