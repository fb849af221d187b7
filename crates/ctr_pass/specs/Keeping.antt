-- What is kept of a pass of the cleaner, from turn to turn, beside others.
use Rattle.std.specs.Prelude.{◌≡◌, ◌⊎◌, ℕ, ℤ, ◌+◌, ◌≤◌, true, false, List, [], length, Option, Some, None}
use Rattle.ctr_types.specs.declared.tape.Entry.{Entry}
use Rattle.ctr_model.specs.declared.state.State.{State as ModelState}
use Rattle.ctr_model.specs.State.{transaction_of}
use Rattle.ctr_locks.specs.Held.{session_locks}
use Rattle.ctr_area.specs.Sound.{IsAmong}
use Rattle.ctr_walk.specs.redo_States.{State}
use Rattle.ctr_actions.specs.Sites.{site_of}
use Rattle.ctr_cleaner.specs.cursor_Position.{Position}
use Rattle.ctr_cleaner.specs.cursor_Pass.{start, GoesBy}
use Rattle.ctr_cleaner.specs.cursor_Standing.{IsPosition}
use Rattle.ctr_cleaner.specs.clean_Lists.{HasNoFree}
use Rattle.ctr_cleaner.specs.Finding.{HasNothingAt}
use Rattle.ctr_cleaner.specs.Turning.{Heeded, next_cleaned}
use Rattle.ctr_pass.specs.declared.going.Went.{Went}
use Rattle.ctr_pass.specs.declared.pass.Pass.{Pass}
use Rattle.ctr_pass.specs.declared.pass.Phase.{Phase}
use Rattle.ctr_pass.specs.declared.pass.Phase.TheVariants.{Disturbed, Calm, Idle}
use Rattle.ctr_pass.specs.Going.{WentAs}
use Rattle.ctr_pass.specs.Passing.{is_calm}

-- ---- what a pass is kept over

-- What a pass is kept over: what stands in the store, the log's next number, the tape so far, the
-- model's state to which it has led, and how many items at the front of the secondary log are
-- undo's.
pub record PassedOver : Type 0 where
  pub state : State
  pub next : ℕ
  pub tape : List Entry
  pub led : ModelState
  pub undos : ℕ

-- Nobody is in a transaction, and none is open.
pub record HasNoneOpen (v : PassedOver) : Type 0 where
  pub nobody : (s : ℕ) → transaction_of v.led s ≡ None
  pub opens : v.state.tables.opens ≡ []

-- ---- what is kept

-- From the start on a pass has come to this position, or to its end, and found nothing to do at
-- any: whichever rows are locked, where everybody sees what is committed.
pub record HasFoundNone (s : State) (to : Option Position) : Type 0 where
  pub passed : List Position
  pub goes : GoesBy (site_of s) (Some start) passed to
  pub found : (x : Position) → IsAmong x passed
      → HasNothingAt (λ e key. Unit {0}) s.tables.next x s

-- What is known of a state in a phase, at a position, where so many items are undo's: nothing,
-- where something happened; else that there was nothing to do so far; and at the end that there is
-- nothing at all, and that no page but undo's waits to be free again.
abbrev pub IsInPhase : Phase → ℕ → Position → State → Type 0
IsInPhase Disturbed n at s = Unit {0}
IsInPhase Calm n at s = HasFoundNone s (Some at)
IsInPhase Idle n at s = HasFoundNone s None × HasNoFree n s.tables

-- What is kept of a pass: it saw no more than there is. Its position is one of the state, where
-- nothing was logged since. And where no transaction has ended either, then, once all are at rest,
-- what its phase says is so.
pub record KeepsPass (p : Pass) (v : PassedOver) : Type 0 where
  pub before : p.next ≤ v.next
  pub seen : p.seen ≤ length v.tape
  pub stands : p.next ≡ v.next → IsPosition p.at (site_of v.state)
  pub phase : is_calm p v.next v.tape ≡ true → HasNoneOpen v
      → IsInPhase p.phase v.undos p.at v.state

-- ---- what others do

-- Nothing was logged, and what stands in the store is as it was, but that more pages may be
-- counted.
pub record StaysUnder (v u : PassedOver) : Type 0 where
  pub next : u.next ≡ v.next
  pub state : u.state ≡ record v.state { counted = u.state.counted }
  pub undos : u.undos ≡ v.undos

-- So it is, or one record was logged.
abbrev pub StaysOrLogs : PassedOver → PassedOver → Type 0
StaysOrLogs v u = StaysUnder v u ⊎ (u.next ≡ v.next + 1)

-- ---- what the cleaner does

-- Where all are at rest the cleaner heeds nobody: everybody sees what is committed, no row is
-- locked, and an entry may be freed.
pub record HeedsNobody (h : Heeded) (v : PassedOver) : Type 0 where
  pub low : h.low ≡ v.state.tables.next
  pub locks : (r f : ℕ) (key : ℤ) → session_locks r f key h.locks ≡ false
  pub free : h.may.free ≡ true

-- A turn of the cleaner, which spares undo's items, was taken at the pass's position, where nothing
-- was logged since; and it left the tape, and who is in a transaction, as they were.
pub record TurnsUnder (p : Pass) (h : Heeded) (w : Went) (v u : PassedOver) : Type 0 where
  pub from : p.next ≡ v.next → w.from ≡ p.at
  pub went : WentAs h v.state u.state w
  pub next : u.next ≡ next_cleaned w.did v.next
  pub spared : h.spared ≡ v.undos
  pub heeds : HasNoneOpen v → HeedsNobody h v
  pub tape : u.tape ≡ v.tape
  pub led : u.led ≡ v.led
  pub undos : u.undos ≡ v.undos
