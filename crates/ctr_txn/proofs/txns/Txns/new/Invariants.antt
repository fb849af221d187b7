use Rattle.std.proofs.Common.{ℕ, ◌≡◌, None, length}
use Rattle.std.specs.Prelude.{get_or}
use Rattle.ctr_txn.proofs.txns.Txns.new.Given as goal

-- so many sessions, of which none is in a transaction
abbrev pub invariant-loop-at : goal.invariant-loop-at
invariant-loop-at l = (length l.sessions.items ≡ l.at) × ((i : ℕ) → get_or l.sessions.items i None ≡ None)
