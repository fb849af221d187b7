-- The Write of a CREATE TABLE or a DROP TABLE in a World.
use Rattle.std.specs.Prelude.{ℕ}
use Rattle.ctr_disk.specs.declared.disk.Disk.{Ghosts}
use Rattle.ctr_types.specs.declared.statement.Statement.{Statement}
use Rattle.ctr_types.specs.declared.statement.Statement.TheVariants as st
use Rattle.ctr_types.specs.declared.tape.Act.TheVariants as act
use Rattle.ctr_types.specs.declared.tape.Reply.{Reply}
use Rattle.ctr_value.specs.Columns.{ColumnsFit}
use Rattle.ctr_looks.specs.kept_Turns.{Start}
use Rattle.ctr_looks.specs.kept_Walk.{Mind}
use Rattle.ctr_store.specs.Store.{View}
use Rattle.ctr_looks.specs.ctr_session_world.World.{SessionsHeld}
use Rattle.ctr_looks.specs.ctr_session_world.Told.{CountsOnTables, IsNextOf, IsActTold}
use Rattle.ctr_looks.specs.declared.tables.TableWrite.{TableWrite}
use Rattle.ctr_looks.specs.Locking.{MayWriteTable}
use Rattle.ctr_writing.specs.Wants.{HasRoomCause}

-- the columns of a table that a statement makes are such as a table may have
abbrev pub HasFittingColumns : Statement → Type 0
HasFittingColumns (st.Create table schema) = ColumnsFit schema.columns
HasFittingColumns statement = Unit {0}

-- A session makes or drops the table of its statement, as it was found at the Lock. Beside that it
-- counts on tables.
pub record IsAtTableWrite (c : Start) (s : ℕ) (statement : Statement) (w : Mind)
    (write : TableWrite) : Type 0 where
  pub may : MayWriteTable c s statement w write
  pub counts : CountsOnTables (w.facts s)

-- The reply is told, and from then on the session counts on tables. It wants an entry where none is
-- free.
abbrev pub TurnOfTable : {D : Type 0} {g : Ghosts D} {c : Start} {opened : D} {a b : View D}
    {h : SessionsHeld} {s : ℕ} {statement : Statement}
    → IsNextOf g c opened a b h s statement 1 → SessionsHeld → Reply → Type 0
TurnOfTable {a = a} {b = b} {s = s} next now r =
    (told : IsActTold next now act.Write r) × CountsOnTables (told.mind.facts s)
    × HasRoomCause r a.now b.now
