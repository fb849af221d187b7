-- The one invariant: what an engine of versions and snapshots shows of a state of the model.
use Rattle.std.specs.Prelude.{◌≡◌, ℕ, ◌≤◌, ◌<◌, ℤ, Bool, true, false, List, length, Option, Some, None}
use Rattle.std.specs.List.{AllByRecursion}
use Rattle.std.specs.Ordering.{nat_cmp}
use Rattle.std.specs.FinMap.Entries.{find}
use Rattle.ctr_model.specs.declared.state.State.{State}
use Rattle.ctr_model.specs.declared.state.Transaction.{Transaction}
use Rattle.ctr_snap.specs.Seeing.{SnapshotTaken, has, sees_or_own}
use Rattle.ctr_versions.specs.Xids.{Xids, fate_of, number_of, is_before, IsSnapshotOf, AreSound}
use Rattle.ctr_versions.specs.Versions.{Versions, names_at, rows_of, VersionsStand, Wrote}

-- A session in a transaction: its number, 0 where none is drawn yet, its snapshot, and whether it
-- is within its rollback, where that takes several steps.
pub record SessionHeld : Type 0 where
  pub me : ℕ
  pub snapshot : SnapshotTaken
  pub undoing : Bool

-- What an engine has of its database, however it keeps it: the transactions, the versions, the
-- sessions in a transaction by their number, and how many commits are answered.
pub record EngineHeld : Type 0 where
  pub xids : Xids
  pub versions : Versions
  pub sessions : List (ℕ × SessionHeld)
  pub answered : ℕ

-- what the session's own test passes
abbrev pub session_sees : Xids → SessionHeld → ℕ → Bool
session_sees xids session x = sees_or_own session.snapshot (Some session.me) (fate_of xids x) x

-- the version is by a transaction of which this holds
abbrev pub IsBy : {V : Type 0} → (ℕ → Type 0) → ℕ × Option V → Type 0
IsBy P v = P v.0

-- Every version of every chain is by a transaction of which P holds.
pub record AreBy (P : ℕ → Type 0) (versions : Versions) : Type 0 where
  pub names : (name : List ℕ) → AllByRecursion (IsBy P) (names_at versions name)
  pub rows : (id : ℕ) (key : ℤ) → AllByRecursion (IsBy P) (rows_of versions id key)

-- A transaction's number was drawn: from 1 to below the next.
abbrev pub IsDrawn : ℕ → ℕ → Type 0
IsDrawn next x = (0 < x) × (x < next)

-- where it was committed before the run, it is seen by the snapshot
abbrev pub IsSeenIfOld : Xids → SnapshotTaken → ℕ → Type 0
IsSeenIfOld xids snapshot x = number_of xids x ≡ Some 0 → is_before snapshot x ≡ true

-- A session hasn't asked for its commit, and isn't within its rollback.
abbrev pub IsCalm : SessionHeld → Transaction → Type 0
IsCalm session t = (t.asked ≡ None) × (session.undoing ≡ false)

-- The session shows the transaction: its snapshot stands for the transaction's number, and sees
-- what stands of those that were committed before the run; what it wrote is the transaction's own
-- changes. One that has asked has its commit number, and no more is said of what it sees; nor is it
-- of one that is within its rollback, whose number the low one may have passed.
pub record ShowsSession (low answered : ℕ) (xids : Xids) (versions : Versions)
    (session : SessionHeld) (t : Transaction) : Type 0 where
  pub snapshot : IsSnapshotOf xids session.snapshot t.snapshot
  pub old : AreBy (IsSeenIfOld xids session.snapshot) versions
  pub from : session.undoing ≡ false → low ≤ t.snapshot
  pub to : t.snapshot ≤ answered
  pub wrote : IsCalm session t → Wrote (number_of xids) versions session.me t.snapshot t.own
  pub live : t.asked ≡ None → 0 < session.me → has session.me xids.live ≡ true
  pub asked : (k : ℕ) → t.asked ≡ Some k → number_of xids session.me ≡ Some k

-- each transaction of the model is shown by the session of its number
abbrev pub Inside : ℕ → ℕ → Xids → Versions → List (ℕ × Transaction) → List (ℕ × SessionHeld)
    → Type 0
Inside low answered xids versions transactions sessions =
    (s : ℕ) (t : Transaction) → find nat_cmp s transactions ≡ Some t
    → (session : SessionHeld) × (find nat_cmp s sessions ≡ Some session)
    × ShowsSession low answered xids versions session t

-- the numbers of sessions were drawn
abbrev pub AreBelow : ℕ → List (ℕ × SessionHeld) → Type 0
AreBelow next sessions =
    (s : ℕ) (a : SessionHeld) → find nat_cmp s sessions ≡ Some a → a.me < next

-- no two sessions have one number, but for 0
abbrev pub HaveOwnXids : List (ℕ × SessionHeld) → Type 0
HaveOwnXids sessions = (s r : ℕ) (a b : SessionHeld) → find nat_cmp s sessions ≡ Some a
    → find nat_cmp r sessions ≡ Some b → 0 < a.me → a.me ≡ b.me → s ≡ r

-- The engine shows the state. From the low number on, which is at most the count of answered
-- commits and each session's own number, the versions show the rows at every number; each session
-- shows its transaction; numbers of transactions are sound, and as many commits were asked. Locks
-- aren't spoken of.
pub record ShowsState (low : ℕ) (engine : EngineHeld) (state : State) : Type 0 where
  pub sound : AreSound engine.xids
  pub counted : length engine.xids.commits ≡ length state.asked
  pub same_answered : engine.answered ≡ state.answered
  pub answered : state.answered ≤ length state.asked
  pub lowest : low ≤ state.answered
  pub stands : VersionsStand low (number_of engine.xids) state.base state.asked engine.versions
  pub drawn : AreBy (IsDrawn engine.xids.next) engine.versions
  pub inside : Inside low state.answered engine.xids engine.versions state.sessions engine.sessions
  pub below : AreBelow engine.xids.next engine.sessions
  pub apart : HaveOwnXids engine.sessions
