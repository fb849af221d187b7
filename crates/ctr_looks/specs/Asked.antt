-- What a session is answered that asks why its next act is refused, in a World.
use Rattle.std.specs.Prelude.{◌≡◌, ℕ, ◌<◌, ℤ, true, List, Option, Some, None, slice_get}
use Rattle.ctr_disk.specs.declared.disk.Disk.{Ghosts}
use Rattle.ctr_types.specs.declared.statement.Statement.{Statement}
use Rattle.ctr_types.specs.declared.tape.Act.{Act}
use Rattle.ctr_types.specs.declared.tape.Act.TheVariants as act
use Rattle.ctr_types.specs.declared.tape.Reply.TheVariants as reply
use Rattle.ctr_model.specs.declared.state.State.{State}
use Rattle.ctr_model.specs.Refusals.{creates, table_of}
use Rattle.ctr_model.specs.Tape.{Allowed, acts_of}
use Rattle.ctr_area.specs.Images.{is_live}
use Rattle.ctr_record_effects.specs.States.{area_in}
use Rattle.ctr_names.specs.Search.{IsEntryFound}
use Rattle.ctr_asking.specs.ctr_wishes.actions_Sites.{site_of}
use Rattle.ctr_store.specs.Store.{View}
use Rattle.ctr_session_world.specs.kept_Turns.{Start, state_now}
use Rattle.ctr_locks.specs.Shows.{IsOnlyEntry}
use Rattle.ctr_session_world.specs.txn_Held.{TxnsHeld}
use Rattle.ctr_asking.specs.declared.asker.Answer.{Answer}
use Rattle.ctr_asking.specs.declared.asker.Answer.TheVariants.{Refused, Free}
use Rattle.ctr_asking.specs.Asking.{IsInside, sees_for}
use Rattle.ctr_session_world.specs.World.{SessionsHeld, names_in}
use Rattle.ctr_session_world.specs.Told.{IsNextOf}
use Rattle.ctr_looks.specs.Granting.{IsUnopposed}

-- a Lock or a Read
abbrev pub IsLook : Act → Type 0
IsLook act.Lock = Unit {0}
IsLook act.Read = Unit {0}
IsLook x = ⊥

-- An act is the first of a statement.
abbrev pub IsFirstOf : Act → Statement → Type 0
IsFirstOf x statement = (state : State) (s : ℕ) → slice_get (acts_of state s statement) 0 ≡ Some x

-- who isn't refused is in a transaction
abbrev pub FreesInside : ℕ → TxnsHeld → Answer → Type 0
FreesInside s txns (Refused why) = Unit {0}
FreesInside s txns (Free found) = IsInside s txns

-- The session has found the table of a name at an entry: it is live, nobody has dropped it, and
-- whoever else has the lock of a key in a table of the name has it there.
pub record StandsAt {D : Type 0} {g : Ghosts D} {c : Start} {opened : D} {a b : View D}
    {h : SessionsHeld} {s : ℕ} {statement : Statement} {made : ℕ}
    {next : IsNextOf g c opened a b h s statement made} {x : Act} (free : IsUnopposed next x)
    (name : List ℕ) (e : ℕ) : Type 0 where
  pub inside : e < 32
  pub found : IsEntryFound (sees_for (site_of a.now) free.txn) name (area_in a.now) e
  pub title : names_in a.now e ≡ name
  pub live : is_live ((area_in a.now).title e) ≡ true
  pub undropped : ((area_in a.now).title e).dropper ≡ 0
  pub only : (key : ℤ) → IsOnlyEntry (names_in a.now) s e key h.locks

-- That, of an entry that was found; or none was.
abbrev pub IsFoundFor : {D : Type 0} {g : Ghosts D} {c : Start} {opened : D} {a b : View D}
    {h : SessionsHeld} {s : ℕ} {statement : Statement} {made : ℕ}
    {next : IsNextOf g c opened a b h s statement made} {x : Act}
    → IsUnopposed next x → List ℕ → Option ℕ → Type 0
IsFoundFor free name None = Unit {0}
IsFoundFor free name (Some e) = StandsAt free name e

-- The refusal that is told is one that the tape allows. Or nothing speaks against the act; and
-- where a table isn't to be made, it stands at the entry that is told.
abbrev pub IsAsked : {D : Type 0} {g : Ghosts D} {c : Start} {opened : D} {a b : View D}
    {h : SessionsHeld} {s : ℕ} {statement : Statement} {made : ℕ}
    → IsNextOf g c opened a b h s statement made → Act → Answer → Type 0
IsAsked {c = c} {s = s} {statement = statement} next x (Refused why) =
    Allowed (state_now c next.mind) s x statement (reply.Refused why)
IsAsked {statement = statement} next x (Free None) = (creates statement ≡ true) × IsUnopposed next x
IsAsked {statement = statement} next x (Free (Some e)) = (free : IsUnopposed next x)
    × ((name : List ℕ) → table_of statement ≡ Some name → StandsAt free name e)
