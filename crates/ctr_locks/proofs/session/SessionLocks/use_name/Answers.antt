use Rattle.std.proofs.Common.{true}
use Rattle.ctr_locks.proofs.Looks.{no_name, through_used}
use Rattle.ctr_locks.proofs.session.SessionLocks.use_name.Goals as goal

pub returns-in_default : goal.returns-in_default
returns-in_default c = no_name c.self.inside.entries c.self.inside.names c.args.self.now c.self.view_is c.args.name.now c.in_default.ensures.value c.requires

pub returns : goal.returns
returns c = through_used c.self.inside.entries c.self.inside.names c.args.self.now c.self.view_is c.args.name.now (c.get_mut.follows.lender (record c.in-Some.name.now { used = true })) c.in-Some.name.now c.in-Some.ensures.value (c.get_mut.follows.holds (record c.in-Some.name.now { used = true }))
