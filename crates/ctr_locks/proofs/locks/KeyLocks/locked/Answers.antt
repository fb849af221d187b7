use Rattle.std.proofs.Common.{◌∙◌, ap, subst}
use Rattle.ctr_locks.specs.Held.{IsInOrder, OneHolder, locks_key, first_that}
use Rattle.std.specs.Ordering.{nat_cmp}
use Rattle.ctr_locks.proofs.Maps.{in_order}
use Rattle.ctr_locks.proofs.Sessions.{holder_is}
use Rattle.ctr_locks.proofs.locks.KeyLocks.locked.Goals as goal

pub returns-clause-holder : goal.returns-clause-holder
returns-clause-holder c = holder_is c.self.inside.sessions c.args.self.now c.self.view_is c.self.invariant.0 c.args.entry c.args.key c.first_with.result (c.first_with.ensures ∙ ap (first_that (locks_key c.args.entry c.args.key)) c.self.view_is)

pub returns-clause-one : goal.returns-clause-one
returns-clause-one c = subst OneHolder c.self.view_is c.self.invariant.1

pub returns-clause-ordered : goal.returns-clause-ordered
returns-clause-ordered c = subst IsInOrder c.self.view_is (in_order nat_cmp c.self.inside.sessions.entries c.self.invariant.0)
