-- What a session finds in the catalog, and what it stands on there.
use Rattle.std.specs.Prelude.{◌≡◌, ℕ, ◌<◌, ◌==◌, Bool, true, false, ◌&&◌, ◌||◌, not, List, Option, Some, None}
use Rattle.ctr_record_laws.specs.model_declared_state_State.{State}
use Rattle.ctr_record_laws.specs.model_Transaction.{Transaction}
use Rattle.ctr_snap.specs.Seeing.{SnapshotTaken}
use Rattle.ctr_record_laws.specs.versions_Chains.{changed_since}
use Rattle.ctr_record_laws.specs.versions_Keys.{schema_writes}
use Rattle.ctr_record_laws.specs.versions_Xids.{Xids, number_of}
use Rattle.ctr_record_laws.specs.versions_Versions.{VersionsStand, IsOrdered}
use Rattle.ctr_record_laws.specs.versions_Engine.{SessionHeld, session_sees, IsCalm, ShowsSession}
use Rattle.ctr_record_laws.specs.meta_Tables.{Tables}
use Rattle.ctr_record_laws.specs.meta_Seen.{xid_is_changed}
use Rattle.ctr_record_laws.specs.area_Areas.{Area, Title}
use Rattle.ctr_record_laws.specs.area_Images.{is_committed_in, is_named_so, is_standing, versions_in}
use Rattle.ctr_record_laws.specs.area_Sound.{IsSchemaItem, xids_in}
use Rattle.ctr_names.specs.Stand.{NamesStand}

-- The transactions of an engine are those of tables.
pub record IsOfTables (tables : Tables) (xids : Xids) : Type 0 where
  pub next : xids.next ≡ tables.next
  pub live : xids.live ≡ xids_in tables.opens
  pub aborted : xids.aborted ≡ xids_in tables.aborted

-- The chains of an area show a state, and the transactions are those of its tables: from the low
-- number on the chains have the state's rows, and at most one table of each name stands.
pub record ShowsNames (low : ℕ) (tables : Tables) (area : Area) (xids : Xids) (state : State)
    : Type 0 where
  pub xids_are : IsOfTables tables xids
  pub chains : VersionsStand low (number_of xids) state.base state.asked
      (versions_in (is_committed_in tables) area)
  pub one : NamesStand low (number_of xids) area.title
  pub ordered : IsOrdered state.base

-- who looks for a name: a session in a transaction
pub record Looker : Type 0 where
  pub session : SessionHeld
  pub t : Transaction
  pub name : List ℕ

-- A looker shows its transaction, is neither asked nor within a rollback; and where it has made or
-- dropped a table of the name itself, nobody has changed the name since its snapshot.
pub record IsLooking (low : ℕ) (tables : Tables) (area : Area) (xids : Xids) (state : State)
    (look : Looker) : Type 0 where
  pub shown : ShowsSession low state.answered xids (versions_in (is_committed_in tables) area)
      look.session look.t
  pub calm : IsCalm look.session look.t
  pub firm : (f : ℕ) → IsSchemaItem look.session.me f tables.items
      → (area.title f).name ≡ look.name
      → changed_since look.t.snapshot (schema_writes look.name state.asked) ≡ None

-- what a session finds of a transaction: 0 is nobody
abbrev pub finds : Xids → SessionHeld → ℕ → Bool
finds xids session x = not (x == 0) && session_sees xids session x

-- the number that a session has drawn, or none
abbrev pub IsNumberOf : SessionHeld → Option ℕ → Type 0
IsNumberOf session None = session.me ≡ 0
IsNumberOf session (Some me) = me ≡ session.me

-- An entry of the catalog is the live one of a name that stands by a test of who is seen.
abbrev pub IsEntryFound : (ℕ → Bool) → List ℕ → Area → ℕ → Type 0
IsEntryFound sees name area f = (f < 32) × (is_named_so name (f, area.title f) ≡ true)
    × (is_standing sees (area.title f) ≡ true)

-- No entry of the catalog is the live one of a name that stands by a test of who is seen.
abbrev pub IsNoneFound : (ℕ → Bool) → List ℕ → Area → Type 0
IsNoneFound sees name area = (f : ℕ) → f < 32 → is_named_so name (f, area.title f) ≡ true
    → is_standing sees (area.title f) ≡ false

-- Who made the table of an entry, or who dropped it, is committed, and the snapshot doesn't see it.
abbrev pub is_changed_for : Tables → SnapshotTaken → Title → Bool
is_changed_for tables snapshot title =
    xid_is_changed tables snapshot title.dropper || xid_is_changed tables snapshot title.creator
