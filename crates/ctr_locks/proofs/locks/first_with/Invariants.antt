use Rattle.std.proofs.Common.{◌≡◌}
use Rattle.ctr_locks.specs.Held.{locks_key, first_that}
use Rattle.ctr_locks.proofs.locks.first_with.Given as goal

-- the sessions that were passed don't
abbrev pub invariant-loop-session : goal.invariant-loop-session
invariant-loop-session l = first_that (locks_key l.entry l.key) l.sessions.entries ≡ first_that (locks_key l.entry l.key) l.session-iterator
