-- What each call makes of the transactions of sessions.
use Rattle.std.specs.Prelude.{◌≡◌, ℕ, ◌+◌, ◌-◌, ◌≤◌, false, true, List, length, ◌∷◌, [], ◌++◌, Bool, Option, Some, None, slice_set}
use Rattle.ctr_snap.specs.Seeing.{least}
use Rattle.ctr_versions.specs.Laws.{sessions_named}
use Rattle.ctr_versions.specs.Xids.{taken, unanswered}
use Rattle.ctr_meta.specs.Tables.{Tables}
use Rattle.ctr_paged.specs.Paged.{xids_of}
use Rattle.ctr_txn.specs.declared.txn.Asked.{Asked}
use Rattle.ctr_txn.specs.Numbered.{NumbersHeld}
use Rattle.ctr_txn.specs.Held.{TxnHeld, TxnsHeld, IsOneOfEight, txn_of, held_from}

-- The session's transaction is this one, or none; the others are as they were.
pub record SetsTxn (s : ℕ) (t : Option TxnHeld) (old new : TxnsHeld) : Type 0 where
  pub sessions : new.sessions ≡ slice_set old.sessions (s - 1) t
  pub answered : new.answered ≡ old.answered
  pub cleaner : new.cleaner ≡ old.cleaner

-- The numbers are as they were; room may have been taken, or given back.
pub record KeepsNumbers (old new : NumbersHeld) : Type 0 where
  pub first : new.first ≡ old.first
  pub next : new.next ≡ old.next
  pub commits : new.commits ≡ old.commits

-- the next number is drawn
pub record DrawsOne (old new : NumbersHeld) : Type 0 where
  pub first : new.first ≡ old.first
  pub next : new.next ≡ old.next + 1
  pub commits : new.commits ≡ old.commits

-- a transaction asked for its commit, behind the others
pub record AsksOne (x : ℕ) (old new : NumbersHeld) : Type 0 where
  pub first : new.first ≡ old.first
  pub next : new.next ≡ old.next
  pub commits : new.commits ≡ old.commits ++ x ∷ []

-- a transaction that begins, over these tables: it sees what is answered
abbrev pub txn_begun : Tables → TxnsHeld → TxnHeld
txn_begun tables a = record {
  session = record {
    me = 0;
    snapshot = taken (xids_of tables a.numbers.commits) a.answered;
    undoing = false;
  };
  since = a.answered;
  asked = None;
  item = false;
}

-- the transaction with a number
abbrev pub txn_drawn : ℕ → TxnHeld → TxnHeld
txn_drawn x t = record t { session = record t.session { me = x } }

-- the transaction within its rollback
abbrev pub txn_undoing : TxnHeld → TxnHeld
txn_undoing t = record t { session = record t.session { undoing = true } }

-- the transaction that has asked for its commit
abbrev pub txn_asked : Asked → TxnHeld → TxnHeld
txn_asked a t = record t { asked = Some a }

-- the transaction with room for an item, or without
abbrev pub txn_room : Bool → TxnHeld → TxnHeld
txn_room b t = record t { item = b }

-- The next commit that isn't answered is answered: it is this session's, and asked so; the
-- session's transaction ends.
pub record AnswersNext (s : ℕ) (asked : Asked) (old new : TxnsHeld) : Type 0 where
  pub one : IsOneOfEight s
  pub t : TxnHeld
  pub there : txn_of s old ≡ Some t
  pub is_asked : t.asked ≡ Some asked
  pub next : asked.k ≡ old.answered + 1
  pub within : asked.k ≤ length old.numbers.commits
  pub new_is : new ≡ record old {
    sessions = slice_set old.sessions (s - 1) None;
    answered = old.answered + 1;
  }

-- Commits are answered, one behind another, each as the next one.
abbrev pub AnswersInTurn : List (ℕ × Asked) → TxnsHeld → TxnsHeld → Type 0
AnswersInTurn [] old new = new ≡ old
AnswersInTurn (r ∷ rs) old new =
    (m : TxnsHeld) × AnswersNext r.0 r.1 old m × AnswersInTurn rs m new

-- The low mark: the least of the next number, of those that are open or asked and aren't answered,
-- and of those that a live snapshot names.
abbrev pub mark_in : Tables → TxnsHeld → ℕ
mark_in tables a = least tables.next
    (unanswered (xids_of tables a.numbers.commits) a.answered
    ++ sessions_named (held_from 1 a.sessions))
