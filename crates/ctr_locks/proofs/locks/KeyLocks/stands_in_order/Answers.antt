use Rattle.std.proofs.Common.{subst}
use Rattle.ctr_locks.specs.Held.{IsInOrder}
use Rattle.std.specs.Ordering.{nat_cmp}
use Rattle.ctr_locks.proofs.Maps.{in_order}
use Rattle.ctr_locks.proofs.locks.KeyLocks.stands_in_order.Goals as goal

pub returns : goal.returns
returns c = subst IsInOrder c.self.view_is (in_order nat_cmp c.self.inside.sessions.entries c.self.invariant.0)
