-- A Lock or a Read that nothing speaks against, in a World.
use Rattle.std.specs.Prelude.{◌≡◌, ◌⊎◌, ℕ, ◌<◌, true, List, Option, Some, None}
use Rattle.std.specs.Ordering.{nat_cmp}
use Rattle.std.specs.FinMap.Entries.{find}
use Rattle.ctr_disk.specs.declared.disk.Disk.{Ghosts}
use Rattle.ctr_types.specs.declared.statement.Statement.{Statement}
use Rattle.ctr_types.specs.declared.tape.Act.{Act}
use Rattle.ctr_types.specs.declared.tape.Refusal.{Refusal}
use Rattle.ctr_types.specs.declared.tape.Reply.{Reply}
use Rattle.ctr_types.specs.declared.tape.Reply.TheVariants as reply
use Rattle.ctr_model.specs.Refusals.{changes_schema, key_written, refusal_of, table_of}
use Rattle.ctr_versions.specs.Engine.{SessionHeld, IsCalm}
use Rattle.ctr_area.specs.Areas.{Title}
use Rattle.ctr_area.specs.Images.{is_live}
use Rattle.ctr_area.specs.Sound.{IsAmong}
use Rattle.ctr_record_effects.specs.States.{area_in}
use Rattle.ctr_asking.specs.ctr_wishes.actions_Actions.{Begins}
use Rattle.ctr_session_world.specs.actions_Facts.{Fact, HasTable}
use Rattle.ctr_store.specs.Store.{View}
use Rattle.ctr_session_world.specs.kept_Turns.{Start, InTransaction, state_now}
use Rattle.ctr_session_world.specs.page_turns_Acts.{ActsBy}
use Rattle.ctr_session_world.specs.page_turns_Turns.{LogsAtRest, RestsBehind}
use Rattle.ctr_session_world.specs.paged_Moving.{held_as}
use Rattle.ctr_locks.specs.Held.{LocksOfSession, LocksEntryKey, OfSession, SameHeld, UsesName}
use Rattle.ctr_locks.specs.Shows.{IsOnlyEntry}
use Rattle.ctr_session_world.specs.txn_Held.{TxnHeld, TxnsHeld, run_of, txn_of}
use Rattle.ctr_looks.specs.declared.taking.RowAt.{RowAt}
use Rattle.ctr_session_world.specs.World.{SessionsHeld, names_in}
use Rattle.ctr_session_world.specs.Told.{IsNextOf}

-- Nothing speaks against an act of the statement that comes next: its session is in a transaction,
-- hasn't asked for its commit, and isn't within its rollback; and the model doesn't refuse the act.
pub record IsUnopposed {D : Type 0} {g : Ghosts D} {c : Start} {opened : D} {a b : View D}
    {h : SessionsHeld} {s : ℕ} {statement : Statement} {made : ℕ}
    (next : IsNextOf g c opened a b h s statement made) (x : Act) : Type 0 where
  pub txn : TxnHeld
  pub in_it : txn_of s h.txns ≡ Some txn
  pub seat : InTransaction c next.mind s
  pub same : seat.session ≡ txn.session
  pub calm : IsCalm txn.session seat.t
  pub free : refusal_of (state_now c next.mind) s seat.t x statement ≡ None

-- A statement makes or drops the table of a name.
pub record IsOfName (statement : Statement) (name : List ℕ) : Type 0 where
  pub named : table_of statement ≡ Some name
  pub keyless : key_written statement ≡ None
  pub schema : changes_schema statement ≡ true

-- A statement writes the row of a key in a table that its session has found at an entry: the table
-- is live, nobody has dropped it, and whoever else has the key's lock in a table of the name has it
-- there.
pub record WritesRowOf {D : Type 0} {g : Ghosts D} {c : Start} {opened : D} {a b : View D}
    {h : SessionsHeld} {s : ℕ} {statement : Statement} {made : ℕ}
    (next : IsNextOf g c opened a b h s statement made) (row : RowAt) : Type 0 where
  pub named : table_of statement ≡ Some row.name.now
  pub key : key_written statement ≡ Some row.key
  pub inside : row.entry < 32
  pub title : names_in a.now row.entry ≡ row.name.now
  pub live : is_live ((area_in a.now).title row.entry) ≡ true
  pub undropped : ((area_in a.now).title row.entry).dropper ≡ 0
  pub only : IsOnlyEntry (names_in a.now) s row.entry row.key h.locks

-- the reply to a Lock that is granted, or refused
abbrev pub granted_or : Option Refusal → Reply
granted_or None = reply.Granted
granted_or (Some why) = reply.Refused why

-- Behind a granted Lock of a row its session counts on the row's table.
abbrev pub CountsOnTable : Option Refusal → ℕ → Title → List Fact → Type 0
CountsOnTable None e title facts = IsAmong (HasTable e title) facts
CountsOnTable (Some why) e title facts = Unit {0}

-- A session is in a transaction, for which room is kept for an item of the secondary log.
pub record HasItem (s : ℕ) (txns : TxnsHeld) : Type 0 where
  pub t : TxnHeld
  pub there : txn_of s txns ≡ Some t
  pub kept : t.item ≡ true

-- that, where a Lock is granted
abbrev pub HasItemIfGranted : ℕ → TxnsHeld → Option Refusal → Type 0
HasItemIfGranted s txns None = HasItem s txns
HasItemIfGranted s txns (Some why) = Unit {0}

-- Behind a granted Lock of a name its session counts on the table of the entry that was found.
abbrev pub CountsOnFound : Option Refusal → Option ℕ → (ℕ → Title) → List Fact → Type 0
CountsOnFound None None title facts = Unit {0}
CountsOnFound None (Some e) title facts = IsAmong (HasTable e (title e)) facts
CountsOnFound (Some why) found title facts = Unit {0}

-- ---- its parts

-- Room may have been taken for a session: its transactions and its locks are as they were.
pub record KeepsSessions (s : ℕ) (h now : SessionsHeld) : Type 0 where
  pub run : run_of now.txns ≡ run_of h.txns
  pub locks : OfSession s SameHeld h.locks now.locks

-- A session had no number, and drew the next one, by one record.
pub record DrawsNext {D : Type 0} (g : Ghosts D) (s : ℕ) (old new : TxnsHeld) (a b : View D)
    : Type 0 where
  pub acts : ActsBy a.now.tables.next Begins a.now b.now
  pub logs : LogsAtRest g a b
  pub run : (t : SessionHeld) → find nat_cmp s (run_of old).sessions ≡ Some t → (t.me ≡ 0)
      × (run_of new ≡ held_as s (record t { me = a.now.tables.next }) (run_of old))

-- A session had a number already, and nothing was logged.
pub record HasDrawn {D : Type 0} (g : Ghosts D) (s : ℕ) (old new : TxnsHeld) (a b : View D)
    : Type 0 where
  pub rests : RestsBehind g a b
  pub some : (t : SessionHeld) → find nat_cmp s (run_of old).sessions ≡ Some t → 0 < t.me
  pub run : run_of new ≡ run_of old

-- A session has drawn its number by this call, or had one.
abbrev pub HasNumber : {D : Type 0} → Ghosts D → ℕ → TxnsHeld → TxnsHeld → View D → View D → Type 0
HasNumber g s old new a b = DrawsNext g s old new a b ⊎ HasDrawn g s old new a b

-- The locks that a session takes at the Lock of a row: a use of the table, and the key's lock.
pub record TakesRow (s : ℕ) (row : RowAt) (old new : List (ℕ × LocksOfSession)) : Type 0 where
  pub mid : List (ℕ × LocksOfSession)
  pub uses : OfSession s (UsesName row.name.now) old mid
  pub locks : OfSession s (LocksEntryKey row.entry row.key) mid new
