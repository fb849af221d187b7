use Rattle.ctr_model.proofs.Rollbacks.{rollbacks_leave_no_trace}
use Rattle.ctr_model.proofs.laws.rollbacks_leave_no_trace.Goals as goal

pub returns : goal.returns
returns c = rollbacks_leave_no_trace
