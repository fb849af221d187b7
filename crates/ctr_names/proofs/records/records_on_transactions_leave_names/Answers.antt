use Rattle.ctr_names.proofs.Agree.{begin_same, commit_same, abort_same, forget_same}
use Rattle.ctr_names.proofs.records.records_on_transactions_leave_names.Goals as goal

pub returns-clause-begin : goal.returns-clause-begin
returns-clause-begin c = begin_same

pub returns-clause-commit : goal.returns-clause-commit
returns-clause-commit c = λ counted tables area x sound owed newer. commit_same counted tables area sound x owed newer

pub returns-clause-abort : goal.returns-clause-abort
returns-clause-abort c = λ counted tables area x sound owed. abort_same counted tables area sound x owed

pub returns-clause-forget : goal.returns-clause-forget
returns-clause-forget c = λ counted tables area x sound is. forget_same counted tables area sound x is
