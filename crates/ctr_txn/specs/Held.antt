-- The transactions of sessions, as they are held in memory.
use Rattle.std.specs.Prelude.{◌≡◌, ℕ, ◌+◌, ◌-◌, ◌≤◌, ◌<◌, nat_lt, Bool, false, ◌&&◌, List, [], ◌∷◌, length, Option, Some, None, is_none, if◌then◌else◌, get_or, slice_get}
use Rattle.std.specs.List.{sum_by}
use Rattle.std.specs.Option.{option_map}
use Rattle.ctr_snap.specs.Seeing.{has}
use Rattle.ctr_model.specs.declared.state.State.{State}
use Rattle.ctr_versions.specs.Engine.{SessionHeld}
use Rattle.ctr_paged.specs.Paged.{Run}
use Rattle.ctr_paged.specs.Shown.{Scene}
use Rattle.ctr_txn.specs.declared.txn.Asked.{Asked}
use Rattle.ctr_txn.specs.Numbered.{NumbersHeld}

-- A session's transaction: its number, 0 where none is drawn, its snapshot, and whether it is
-- within its rollback; of how many commits the snapshot is; its commit number once it asked; and
-- whether room is kept for an item of its own in the secondary log.
pub record TxnHeld : Type 0 where
  pub session : SessionHeld
  pub since : ℕ
  pub asked : Option Asked
  pub item : Bool

-- The numbers of the run; each session's transaction, from session 1 on; how many commits are
-- answered; and whether room is kept for an item of the cleaner's.
pub record TxnsHeld : Type 0 where
  pub numbers : NumbersHeld
  pub sessions : List (Option TxnHeld)
  pub answered : ℕ
  pub cleaner : Bool

-- The transaction of a session, where it is in one: there is no other witness.
abbrev pub txn_of : ℕ → TxnsHeld → Option TxnHeld
txn_of s a = get_or a.sessions (s - 1) None

-- the number of the transaction of a session, 0 where there is none
abbrev pub me_in : Option TxnHeld → ℕ
me_in None = 0
me_in (Some t) = t.session.me

-- the number that a session has drawn, 0 where it has none
abbrev pub number_drawn : ℕ → TxnsHeld → ℕ
number_drawn s a = me_in (txn_of s a)

-- a session is one of eight
pub record IsOneOfEight (s : ℕ) : Type 0 where
  pub from : 1 ≤ s
  pub to : s ≤ 8

-- the commit number that a transaction asked for
abbrev pub number_of_txn : TxnHeld → Option ℕ
number_of_txn t = option_map (λ (a : Asked). a.k) t.asked

-- ---- what the run has of them

-- the sessions in a transaction, by number, where the first of the list has this one
abbrev pub held_from : ℕ → List (Option TxnHeld) → List (ℕ × SessionHeld)
held_from n [] = []
held_from n (None ∷ rest) = held_from (n + 1) rest
held_from n (Some t ∷ rest) = (n, t.session) ∷ held_from (n + 1) rest

-- the run that these transactions are
abbrev pub run_of : TxnsHeld → Run
run_of a = record {
  commits = a.numbers.commits;
  sessions = held_from 1 a.sessions;
  answered = a.answered;
}

-- the scene of a run that has reached a state of the model
abbrev pub scene_with : TxnsHeld → State → Scene
scene_with a state = record { run = run_of a; state = state }

-- ---- what always holds of them

-- the transaction has a number, and hasn't asked for its commit
abbrev pub may_ask : TxnHeld → Bool
may_ask t = nat_lt 0 t.session.me && is_none t.asked

-- how many commits a session may ask for
abbrev pub asks_of : Option TxnHeld → ℕ
asks_of None = 0
asks_of (Some t) = if may_ask t then 1 else 0

-- A number that is drawn is of the run, and is among those that asked only once it asked; its
-- commit isn't answered.
pub record IsTxn (numbers : NumbersHeld) (answered : ℕ) (t : TxnHeld) : Type 0 where
  pub drawn : 0 < t.session.me
      → (numbers.first ≤ t.session.me) × (t.session.me < numbers.next)
  pub unasked : t.asked ≡ None → 0 < t.session.me → has t.session.me numbers.commits ≡ false
  pub asked : (a : Asked) → t.asked ≡ Some a → (answered < a.k) × (0 < t.session.me)
      × (slice_get numbers.commits (a.k - 1) ≡ Some t.session.me)

-- the transaction at a place of the list
abbrev pub IsAt : List (Option TxnHeld) → ℕ → TxnHeld → Type 0
IsAt sessions i t = get_or sessions i None ≡ Some t

-- There are eight sessions; what is answered was asked; each commit that isn't answered is the one
-- of a session; no two transactions have one number; and there is room for the commit of each.
pub record AreTxns (a : TxnsHeld) : Type 0 where
  pub eight : length a.sessions ≡ 8
  pub answered : a.answered ≤ length a.numbers.commits
  pub first : 0 < a.numbers.first
  pub each : (i : ℕ) (t : TxnHeld) → IsAt a.sessions i t → IsTxn a.numbers a.answered t
  pub apart : (i j : ℕ) (t u : TxnHeld) → IsAt a.sessions i t → IsAt a.sessions j u
      → 0 < t.session.me → t.session.me ≡ u.session.me → i ≡ j
  pub waiting : (k : ℕ) → a.answered < k → k ≤ length a.numbers.commits
      → (i : ℕ) × (t : TxnHeld) × IsAt a.sessions i t × (number_of_txn t ≡ Some k)
  pub room : sum_by asks_of a.sessions ≤ a.numbers.asks

-- ---- what a call asks

-- there is room for one number more, and for the commit of one transaction more
pub record HasNumberRoom (a : TxnsHeld) : Type 0 where
  pub draws : 1 ≤ a.numbers.draws
  pub asks : 8 ≤ a.numbers.asks

-- the session is in a transaction without a number
pub record IsReading (s : ℕ) (a : TxnsHeld) : Type 0 where
  pub t : TxnHeld
  pub there : txn_of s a ≡ Some t
  pub none : t.session.me ≡ 0

-- the session is in a transaction with a number, and hasn't asked for its commit
pub record IsWriting (s : ℕ) (a : TxnsHeld) : Type 0 where
  pub t : TxnHeld
  pub there : txn_of s a ≡ Some t
  pub some : 0 < t.session.me
  pub unasked : t.asked ≡ None
