-- A turn of undo in a World on pages, and the name that goes with it.
use Rattle.std.specs.Prelude.{ℕ, ◌+◌, List, [], ◌∷◌, ◌++◌}
use Rattle.ctr_rec.specs.declared.record.SlogItem.TheVariants.{AllocOf, FreeOf, CreateOf, DropOf}
use Rattle.ctr_versions.specs.Laws.{IsNoSessions}
use Rattle.ctr_meta.specs.declared.items.Wanted.TheVariants.{Creation, Dropping}
use Rattle.ctr_names.specs.Held.{names_of_items}
use Rattle.ctr_actions.specs.Sites.{Site}
use Rattle.ctr_rollback.specs.paged_Moving.{IsItemOfName}
use Rattle.ctr_rollback.specs.kept_Walk.{Mind}
use Rattle.ctr_rollback.specs.kept_Turns.{release_entry}
use Rattle.ctr_undo.specs.declared.list.UndoItem.{UndoItem}
use Rattle.ctr_undo.specs.declared.list.UndoItem.TheVariants.{Slog, Orphan}
use Rattle.ctr_undo.specs.Left.{UndoLeft}

-- undo's list in a World
abbrev pub list_of : Mind → UndoLeft
list_of w = record { items = w.undo.items; orphans = w.undo.orphans }

-- the mind, once a turn has led the list on
abbrev pub undone_to : UndoLeft → Mind → Mind
undone_to v w = record w {
  undo = record w.undo { items = v.items; orphans = v.orphans; turns = w.undo.turns + 1 };
}

-- ---- the name of what is undone

-- Whether an item of undo is of a table, and not of a page that is to be free again.
abbrev pub IsOfTable : UndoItem → Type 0
IsOfTable (Slog (AllocOf x p)) = ⊥
IsOfTable (Slog (FreeOf p)) = ⊥
IsOfTable (Slog (CreateOf x e)) = Unit {0}
IsOfTable (Slog (DropOf x e)) = Unit {0}
IsOfTable (Orphan x) = ⊥

-- the name of that table; of a page and of a transaction none
abbrev pub name_undone : UndoItem → Site → List ℕ
name_undone (Slog (AllocOf x p)) site = []
name_undone (Slog (FreeOf p)) site = []
name_undone (Slog (CreateOf x e)) site = (site.area.title e).name
name_undone (Slog (DropOf x e)) site = (site.area.title e).name
name_undone (Orphan x) site = []

-- The name that an item of undo has, as a list; nothing where it has none.
abbrev pub names_undone : UndoItem → Site → List (List ℕ)
names_undone (Slog i) site = names_of_items site.area.title (i ∷ [])
names_undone (Orphan x) site = []

-- Of an item of a table another one of the name is left, of a transaction that no session has.
abbrev pub IsNameKept : UndoItem → Site → Mind → Type 0
IsNameKept (Slog (AllocOf x p)) site w = Unit {0}
IsNameKept (Slog (FreeOf p)) site w = Unit {0}
IsNameKept (Slog (CreateOf x e)) site w = (y : ℕ) × (f : ℕ)
    × IsItemOfName e (Creation e) site y f × IsNoSessions w.run.sessions y
IsNameKept (Slog (DropOf x e)) site w = (y : ℕ) × (f : ℕ)
    × IsItemOfName e (Dropping e) site y f × IsNoSessions w.run.sessions y
IsNameKept (Orphan x) site w = Unit {0}

-- An item is of a table, and no item of the name is left.
abbrev pub IsNameReleased : UndoItem → Site → Type 0
IsNameReleased (Slog (AllocOf x p)) site = ⊥
IsNameReleased (Slog (FreeOf p)) site = ⊥
IsNameReleased (Slog (CreateOf x e)) site =
    (y f : ℕ) → IsItemOfName e (Creation e) site y f → ⊥
IsNameReleased (Slog (DropOf x e)) site = (y f : ℕ) → IsItemOfName e (Dropping e) site y f → ⊥
IsNameReleased (Orphan x) site = ⊥

-- the mind, once the name is released on the tape too
abbrev pub released_to : UndoLeft → List ℕ → ℕ → Mind → Mind
released_to v name later w =
    record (undone_to v w) { tape = w.tape ++ release_entry name later ∷ [] }
