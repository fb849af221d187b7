use Rattle.std.proofs.Common.{◌≡◌}
use Rattle.std.specs.Ordering.{nat_cmp}
use Rattle.ctr_model.specs.Maps.{without}
use Rattle.ctr_locks.specs.Held.{keeps_others_off, first_that}
use Rattle.ctr_locks.proofs.locks.KeyLocks.busy.Given as goal

-- the sessions that were passed don't
abbrev pub invariant-loop-other : goal.invariant-loop-other
invariant-loop-other l = first_that (keeps_others_off l.schema l.name) (without nat_cmp l.s l.self) ≡ first_that (keeps_others_off l.schema l.name) (without nat_cmp l.s l.other-iterator)
