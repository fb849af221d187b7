-- One turn of undo.
use Rattle.std.specs.Prelude.{◌≡◌, ℕ, ◌+◌, ◌≤◌, List, Result, Ok, Err}
use Rattle.ctr_disk.specs.declared.disk.Disk.{Ghosts}
use Rattle.ctr_disk.specs.Image.{Image}
use Rattle.ctr_disk.specs.declared.fault.StoreFault.{StoreFault}
use Rattle.ctr_disk.specs.declared.fault.StoreFault.TheVariants.{Fault}
use Rattle.ctr_versions.specs.Engine.{SessionHeld}
use Rattle.ctr_rec.specs.declared.record.Record.{Record}
use Rattle.ctr_rec.specs.declared.record.Record.TheVariants.{Abort}
use Rattle.ctr_rec.specs.declared.record.SlogItem.TheVariants.{AllocOf, FreeOf, CreateOf, DropOf}
use Rattle.ctr_meta.specs.Tables.{Tables}
use Rattle.ctr_redo.specs.States.{State}
use Rattle.ctr_record_effects.specs.Standing.{IsDatabaseState}
use Rattle.ctr_actions.specs.Sites.{site_of}
use Rattle.ctr_actions.specs.Actions.{Action, Aborts, Owes, undoing}
use Rattle.ctr_store.specs.Store.{View}
use Rattle.ctr_walk.specs.OneRecord.{LogsOne}
use Rattle.ctr_rollback.specs.ctr_catalog.Writing.{undo_record}
use Rattle.ctr_rollback.specs.page_turns_Acts.{ActsBy}
use Rattle.ctr_rollback.specs.kept_Undo.{Undo, IsUndoLeft}
use Rattle.ctr_undo.specs.declared.list.UndoItem.{UndoItem}
use Rattle.ctr_undo.specs.declared.list.UndoItem.TheVariants.{Slog, Orphan}
use Rattle.ctr_undo.specs.declared.turning.UndoTurn.{UndoTurn}
use Rattle.ctr_undo.specs.declared.turning.UndoTurn.TheVariants.{Undone, Over}
use Rattle.ctr_undo.specs.Left.{UndoLeft, IsUndoOver, Goes}

-- ---- what undoes what is next

-- the record; of a page, with the byte in which the page has its bit
abbrev pub record_for : UndoItem → ℕ → Record
record_for (Slog i) byte = undo_record i byte
record_for (Orphan x) byte = Abort x

-- The action by which an item is undone.
abbrev pub undo_action : UndoItem → Action
undo_action (Slog i) = undoing i
undo_action (Orphan x) = Aborts

-- Who acts: the transaction whose item it is, or that is left open; of a page that left its chain,
-- nobody yet.
abbrev pub undo_actor : UndoItem → Tables → ℕ
undo_actor (Slog (AllocOf x p)) tables = x
undo_actor (Slog (FreeOf p)) tables = tables.next
undo_actor (Slog (CreateOf x e)) tables = x
undo_actor (Slog (DropOf x e)) tables = x
undo_actor (Orphan x) tables = x

-- how many pages are read and records are logged, together
abbrev pub steps_for : UndoItem → ℕ
steps_for (Slog i) = 2
steps_for (Orphan x) = 1

-- The action of what is next owes nothing more.
abbrev pub OwesNext : UndoItem → State → Type 0
OwesNext item s = Owes (undo_actor item s.tables) (undo_action item) (site_of s)

-- The action of what is next leads from a state to another.
abbrev pub DoesNext : UndoItem → State → State → Type 0
DoesNext item s t = ActsBy (undo_actor item s.tables) (undo_action item) s t

-- ---- a turn, whatever the disk tells

-- The record of what is next is logged, or there is a cause why it wasn't; where nothing is left
-- the store is as it was.
abbrev pub LogsNext : {D : Type 0} → Image → Ghosts D → UndoLeft → View D → View D
    → Result UndoTurn StoreFault → Type 0
LogsNext first g u a b (Ok Over) = b ≡ a
LogsNext first g u a b (Ok Undone) = (item : UndoItem) × (v : UndoLeft) × (byte : ℕ) × Goes item u v
    × LogsOne {T = UndoTurn} first g (record_for item byte) a b (Ok Undone)
LogsNext first g u a b (Err e) = (item : UndoItem) × (v : UndoLeft) × (byte : ℕ) × Goes item u v
    × LogsOne {T = UndoTurn} first g (record_for item byte) a b (Err e)

-- What is next goes from the list; it is over exactly where nothing is left.
abbrev pub TakesNextItem : UndoLeft → UndoLeft → Result UndoTurn StoreFault → Type 0
TakesNextItem u v (Ok Over) = IsUndoOver u × (v ≡ u)
TakesNextItem u v (Ok Undone) = (item : UndoItem) × Goes item u v
TakesNextItem u v (Err e) = (v ≡ u) × (IsUndoOver u → ⊥)

-- An item takes a page and a record, a mark a record; a turn that failed, no more than that.
abbrev pub TakesUndoSteps : UndoLeft → Result UndoTurn StoreFault → ℕ → ℕ → Type 0
TakesUndoSteps u (Ok Over) old new = new ≡ old
TakesUndoSteps u (Ok Undone) old new = (item : UndoItem) × (v : UndoLeft) × Goes item u v
    × (new ≡ old + steps_for item)
TakesUndoSteps u (Err e) old new = new ≤ old + 2

-- ---- in a state that may be a database's

-- the list, with how many turns there were, and the first number of the run
abbrev pub as_undo : UndoLeft → ℕ → ℕ → Undo
as_undo u turns first =
    record { items = u.items; orphans = u.orphans; turns = turns; first = first }

-- The state may be a database's, and the list is what is left of undo there, whatever sessions have
-- done.
pub record MayUndo (u : UndoLeft) (s : State) : Type 0 where
  pub sound : IsDatabaseState s
  pub sessions : List (ℕ × SessionHeld)
  pub turns : ℕ
  pub first : ℕ
  pub left : IsUndoLeft s.tables sessions (as_undo u turns first)

-- What is next goes from the list, and its action leads from a state to the next.
pub record Undoes (u v : UndoLeft) (s t : State) : Type 0 where
  pub item : UndoItem
  pub goes : Goes item u v
  pub acts : DoesNext item s t

-- So a turn ends, or nothing was left; or the disk failed.
abbrev pub EndsUndoTurn : UndoLeft → UndoLeft → State → State → Result UndoTurn StoreFault → Type 0
EndsUndoTurn u v s t (Ok Over) = t ≡ s
EndsUndoTurn u v s t (Ok Undone) = Undoes u v s t
EndsUndoTurn u v s t (Err e) = e ≡ Fault
