-- The order of the tape, whatever the disk tells: each entry is the next act of its session, or
-- recovery's release of a name.
use Rattle.std.specs.Prelude.{◌≡◌, ◌⊎◌, ℕ, ◌+◌, ◌≤◌, List, [], ◌∷◌, ◌++◌, Some, Result, Ok, Err, slice_get}
use Rattle.std.specs.List.{AllByRecursion}
use Rattle.ctr_disk.specs.declared.fault.StoreFault.{StoreFault}
use Rattle.ctr_types.specs.declared.statement.Line.{Line}
use Rattle.ctr_types.specs.declared.statement.Statement.{Statement}
use Rattle.ctr_types.specs.declared.tape.Act.TheVariants as act
use Rattle.ctr_types.specs.declared.tape.Entry.{Entry}
use Rattle.ctr_types.specs.declared.tape.Reply.TheVariants as reply
use Rattle.ctr_model.specs.declared.tape.Point.{Point}
use Rattle.ctr_model.specs.Tape.{acts_of, at_start, final, passed, progress_of, statement_of}
use Rattle.ctr_control.specs.txn_Held.{IsOneOfEight}
use Rattle.ctr_exec.specs.declared.sessions.Sessions.{Sessions}
use Rattle.ctr_exec.specs.Runners.{made_at, runner_at}

-- ---- entries

-- The entry is the next act of its session, by the script; what it is answered is not asked.
pub record IsNextInOrder (lines : List Line) (p : Point) (e : Entry) : Type 0 where
  pub statement : Statement
  pub is_it : statement_of lines e.session e.statement ≡ Some statement
  pub number : e.statement ≡ (progress_of p e.session).finished + 1
  pub next_act : slice_get (acts_of p.state e.session statement) (progress_of p e.session).made
      ≡ Some e.act

-- An entry tells that recovery releases a name.
pub record IsReleaseEntry (e : Entry) : Type 0 where
  pub name : List ℕ
  pub act : e.act ≡ act.Release name
  pub session : e.session ≡ 0
  pub statement : e.statement ≡ 0
  pub released : e.reply ≡ reply.Released

-- Each entry is not earlier than the one before it, and the next of its session, or recovery's.
abbrev pub StandInOrder : List Line → Point → List Entry → Type 0
StandInOrder lines p [] = Unit {0}
StandInOrder lines p (e ∷ es) =
    (p.moment ≤ e.moment) × (IsNextInOrder lines p e ⊎ IsReleaseEntry e)
    × StandInOrder lines (passed lines p e) es

-- ---- sessions

-- where the tape has led, from a moment on
abbrev pub led_from : ℕ → Sessions → Point
led_from start h = final h.script.lines (at_start start [] []) h.tape.items

-- The tape stands in order from a moment on, isn't later than now, and has led each session to
-- where it is.
pub record IsTapeOrdered (start now : ℕ) (h : Sessions) : Type 0 where
  pub order : StandInOrder h.script.lines (at_start start [] []) h.tape.items
  pub later : (led_from start h).moment ≤ now
  pub each : (s : ℕ) → IsOneOfEight s → progress_of (led_from start h) s
      ≡ record {
        finished = (runner_at s h.runners.items).finished;
        made = made_at (runner_at s h.runners.items).stage;
      }

-- ---- what a turn adds

-- What a turn adds to the tape, whatever the disk tells: such entries, each at this moment. Nothing
-- else of the script changes, and a tape that stood in order does still.
pub record Adds (such : List Entry → Type 0) (before moment : ℕ) (h now : Sessions) : Type 0 where
  pub entries : List Entry
  pub tape : now.tape.items ≡ h.tape.items ++ entries
  pub are_such : such entries
  pub moments : AllByRecursion (λ (e : Entry). e.moment ≡ moment) entries
  pub script : now.script ≡ h.script
  pub stuck : now.stuck ≡ h.stuck
  pub order : (start : ℕ) → IsTapeOrdered start before h → IsTapeOrdered start moment now

-- A turn that fails adds nothing.
abbrev pub AddsOrFails : {T : Type 0} → (List Entry → Type 0) → ℕ → ℕ → Sessions → Sessions
    → Result T StoreFault → Type 0
AddsOrFails such before moment h now (Ok x) = Adds such before moment h now
AddsOrFails such before moment h now (Err e) = (now.tape ≡ h.tape) × (now.script ≡ h.script)
