-- Turns of undo, one behind another.
use Rattle.std.specs.Prelude.{◌≡◌, ℕ, zero, suc}
use Rattle.ctr_undo.specs.declared.list.UndoItem.{UndoItem}
use Rattle.ctr_undo.specs.Left.{UndoLeft, Goes}

-- So many turns lead from a list to another one, whatever others do between.
abbrev pub LeadsOn : ℕ → UndoLeft → UndoLeft → Type 0
LeadsOn zero u v = v ≡ u
LeadsOn (suc n) u v = (item : UndoItem) × (w : UndoLeft) × Goes item u w × LeadsOn n w v
