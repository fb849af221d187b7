-- The state of the model: what was committed in which order, and the transactions that are open.
use Rattle.std.specs.Prelude.{ℕ, Bool, false, List, [], take, Option, None, nat_eq}
use Rattle.std.specs.List.{list_any}
use Rattle.std.specs.Ordering.{nat_cmp}
use Rattle.std.specs.Cmp.Lexicographic.{pointwise}
use Rattle.std.specs.FinMap.Entries.{put, find}
use Rattle.ctr_model.specs.Maps.{without}
use Rattle.ctr_model.specs.Database.{Database, after, after_all}
pub use Rattle.ctr_model.specs.declared.state.Transaction.{Transaction}
pub use Rattle.ctr_model.specs.declared.state.State.{State}

-- names are compared byte by byte
abbrev pub same_name : List ℕ → List ℕ → Bool
same_name a b = pointwise nat_eq a b

-- the name is one of these
abbrev pub has_name : List ℕ → List (List ℕ) → Bool
has_name name names = list_any (λ n. same_name n name) names

-- the transaction that a session is in, asked and not answered ones among them
abbrev pub transaction_of : State → ℕ → Option Transaction
transaction_of state s = find nat_cmp s state.sessions

-- the session is in this transaction
abbrev pub with_transaction : ℕ → Transaction → State → State
with_transaction s me state = record state { sessions = put nat_cmp s me state.sessions }

-- the session is in none
abbrev pub without_transaction : ℕ → State → State
without_transaction s state = record state { sessions = without nat_cmp s state.sessions }

-- rows at a number: the base after the first j transactions that were asked
abbrev pub rows_at : State → ℕ → Database
rows_at state j = after_all (take j state.asked) state.base

-- what a session sees: the rows at its snapshot's number, with its own changes
abbrev pub view : State → Transaction → Database
view state me = after me.own (rows_at state me.snapshot)

-- A run begins: nothing is asked, no session is in a transaction, and recovery holds these names.
abbrev pub at_rest : Database → List (List ℕ) → State
at_rest base stuck = record { base = base; asked = []; answered = 0; sessions = []; stuck = stuck }

-- a transaction as BEGIN makes it
abbrev pub begun : ℕ → Transaction
begun n = record {
  snapshot = n;
  own = [];
  writer = false;
  locks = [];
  uses = [];
  holds = [];
  asked = None;
}
