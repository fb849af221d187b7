use Rattle.std.proofs.Common.{◌≡◌}
use Rattle.std.specs.Ordering.{nat_cmp}
use Rattle.ctr_model.specs.Maps.{without}
use Rattle.ctr_locks.specs.Held.{locks_key, first_that}
use Rattle.ctr_locks.proofs.locks.KeyLocks.locked_to.Given as goal

-- the sessions that were passed don't
abbrev pub invariant-loop-other : goal.invariant-loop-other
invariant-loop-other l = first_that (locks_key l.entry l.key) (without nat_cmp l.s l.self) ≡ first_that (locks_key l.entry l.key) (without nat_cmp l.s l.other-iterator)
