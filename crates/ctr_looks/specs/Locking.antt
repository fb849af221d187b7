-- A row that is locked in a World, or a name that is held, and what the Write will do.
use Rattle.std.specs.Prelude.{◌≡◌, ℕ, ◌<◌, ℤ, true, false, List, Option, None, Some, if◌then◌else◌, Result, Ok, Err}
use Rattle.ctr_types.specs.declared.statement.Statement.{Statement}
use Rattle.ctr_types.specs.declared.tape.Refusal.TheVariants as refusal
use Rattle.ctr_types.specs.declared.tape.Reply.{Reply}
use Rattle.ctr_types.specs.declared.tape.Reply.TheVariants as reply
use Rattle.ctr_disk.specs.declared.fault.StoreFault.{StoreFault}
use Rattle.ctr_model.specs.declared.state.Transaction.{Transaction}
use Rattle.ctr_model.specs.Database.{table_at}
use Rattle.ctr_model.specs.Refusals.{changes_schema, creates, has_lock, key_written, table_of}
use Rattle.ctr_model.specs.State.{has_name, transaction_of, view}
use Rattle.ctr_area.specs.Areas.{Title}
use Rattle.ctr_area.specs.Sound.{IsAmong}
use Rattle.ctr_session_world.specs.actions_Facts.{Fact, HasTable}
use Rattle.ctr_asking.specs.ctr_wishes.chain_ReadRefusal.{ReadRefusal}
use Rattle.ctr_asking.specs.ctr_wishes.chain_ReadRefusal.TheVariants as unread
use Rattle.ctr_session_world.specs.kept_Walk.{Mind}
use Rattle.ctr_session_world.specs.kept_Turns.{Start, state_now}
use Rattle.ctr_asking.specs.ctr_wishes.declared.making.Prepared.{Prepared}
use Rattle.ctr_asking.specs.ctr_wishes.Models.{IsModels}
use Rattle.ctr_session_world.specs.txn_Held.{TxnsHeld}
use Rattle.ctr_looks.specs.Granting.{HasItem}
use Rattle.ctr_looks.specs.declared.locking.Locked.{Locked}
use Rattle.ctr_looks.specs.declared.locking.Locked.TheVariants.{Refused, Granted}
use Rattle.ctr_looks.specs.declared.tables.TableLocked.{TableLocked}
use Rattle.ctr_looks.specs.declared.tables.TableLocked.TheVariants as held
use Rattle.ctr_looks.specs.declared.tables.TableWrite.{TableWrite}
use Rattle.ctr_looks.specs.declared.tables.TableWrite.TheVariants.{Make, Drop}

-- the reply that is told
abbrev pub locked_reply : Locked → Reply
locked_reply (Refused why) = reply.Refused why
locked_reply (Granted entry prepared) = reply.Granted

-- What is answered where what the Write will do isn't read.
abbrev pub locked_unread : ReadRefusal → Result Locked StoreFault
locked_unread (unread.Store fault) = Err fault
locked_unread unread.OutOfMemory = Ok (Refused refusal.OutOfMemory)

-- The Write may be begun, whatever the disk tells: the entry that is told is one of the catalog,
-- and room is kept for an item of its session's.
abbrev pub IsReadyLocked : ℕ → TxnsHeld → Locked → Type 0
IsReadyLocked s txns (Refused why) = Unit {0}
IsReadyLocked s txns (Granted entry prepared) = (entry < 32) × HasItem s txns

-- A session has the lock of the statement's row, in the table of an entry on which it counts; and
-- what its Write will do is what the model says of it.
pub record MayWriteRow (c : Start) (s : ℕ) (statement : Statement) (w : Mind) (e : ℕ)
    (prepared : Prepared) : Type 0 where
  pub t : Transaction
  pub is_t : transaction_of (state_now c w) s ≡ Some t
  pub title : Title
  pub key : ℤ
  pub named : table_of statement ≡ Some title.name
  pub written : key_written statement ≡ Some key
  pub lock : has_lock title.name key t ≡ true
  pub counts : IsAmong (HasTable e title) (w.facts s)
  pub models : IsModels (view (state_now c w) t) title.columns statement prepared

-- that, behind a granted Lock
abbrev pub IsReadyBehind : Start → ℕ → Statement → Mind → Locked → Type 0
IsReadyBehind c s statement w (Refused why) = Unit {0}
IsReadyBehind c s statement w (Granted e prepared) = MayWriteRow c s statement w e prepared

-- ---- the Lock of a table's name

-- what the Write of a statement does that makes or drops a table, by the entry that was found
abbrev pub table_write : Statement → Option ℕ → Option TableWrite
table_write statement None = if creates statement then Some Make else None
table_write statement (Some e) = if creates statement then Some Make else Some (Drop e)

-- the reply that is told
abbrev pub table_locked_reply : TableLocked → Reply
table_locked_reply (held.Refused why) = reply.Refused why
table_locked_reply (held.Granted write) = reply.Granted

-- What will be done is what the statement does, of an entry of the catalog.
abbrev pub IsWriteOf : Statement → TableWrite → Type 0
IsWriteOf statement Make = creates statement ≡ true
IsWriteOf statement (Drop e) = (creates statement ≡ false) × (e < 32)

-- The Write may be begun, whatever the disk tells.
abbrev pub IsTableLocked : ℕ → TxnsHeld → Statement → TableLocked → Type 0
IsTableLocked s txns statement (held.Refused why) = Unit {0}
IsTableLocked s txns statement (held.Granted write) = IsWriteOf statement write × HasItem s txns

-- the table of an entry is counted on, and has this name
pub record IsCountedTable (e : ℕ) (name : List ℕ) (facts : List Fact) : Type 0 where
  pub title : Title
  pub named : title.name ≡ name
  pub counts : IsAmong (HasTable e title) facts

-- A session holds the name of the statement's table: it sees none of the name, where it makes one;
-- or it counts on the one that it drops.
pub record MayWriteTable (c : Start) (s : ℕ) (statement : Statement) (w : Mind)
    (write : TableWrite) : Type 0 where
  pub t : Transaction
  pub is_t : transaction_of (state_now c w) s ≡ Some t
  pub name : List ℕ
  pub named : table_of statement ≡ Some name
  pub schema : changes_schema statement ≡ true
  pub holds : has_name name t.holds ≡ true
  pub is : IsWriteOf statement write
  pub makes : write ≡ Make → table_at (view (state_now c w) t) name ≡ None
  pub drops : (e : ℕ) → write ≡ Drop e → IsCountedTable e name (w.facts s)

-- that, behind a granted Lock
abbrev pub IsTableReadyBehind : Start → ℕ → Statement → Mind → TableLocked → Type 0
IsTableReadyBehind c s statement w (held.Refused why) = Unit {0}
IsTableReadyBehind c s statement w (held.Granted write) = MayWriteTable c s statement w write
