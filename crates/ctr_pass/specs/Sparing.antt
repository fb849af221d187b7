-- Sessions beside the cleaner: whether anybody is in a transaction, and the room for an item of its
-- own.
use Rattle.std.specs.Prelude.{◌≡◌, ℕ, Bool, None}
use Rattle.ctr_model.specs.declared.state.State.{State}
use Rattle.ctr_model.specs.State.{transaction_of}
use Rattle.ctr_exec.specs.txn_Held.{TxnsHeld, txn_of}
use Rattle.ctr_exec.specs.declared.sessions.Sessions.{Sessions}

-- by the tape, no session is in a transaction
abbrev pub IsNobodyInside : State → Type 0
IsNobodyInside state = (s : ℕ) → transaction_of state s ≡ None

-- by what the program has, no session is in a transaction
abbrev pub HaveNobody : TxnsHeld → Type 0
HaveNobody txns = (s : ℕ) → txn_of s txns ≡ None

-- the transactions, with room for an item of the cleaner's, or without
abbrev pub with_cleaner : Bool → TxnsHeld → TxnsHeld
with_cleaner item txns = record txns { cleaner = item }

-- the sessions of a script, with that room, or without
abbrev pub keeping_room : Bool → Sessions → Sessions
keeping_room item h = record h { txns = with_cleaner item h.txns }
