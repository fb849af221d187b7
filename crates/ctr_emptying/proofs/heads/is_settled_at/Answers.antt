use Rattle.std.proofs.Common.{ℕ, Bool, Option}
use Rattle.ctr_pvs.proofs.walk_Damages.{reads_err}
use Rattle.ctr_emptying.proofs.heads.is_settled_at.Goals as goal

pub returns-in-Err-clause-leaves : goal.returns-in-Err-clause-leaves
returns-in-Err-clause-leaves g c = reads_err g.O.Origin.first g.D.Disk (Option ℕ) Bool c.in-Err.fault c.args.store.now c.head_at.new.store c.in-Err.ensures.leaves
