-- What is left of undo, and what is next.
use Rattle.std.specs.Prelude.{◌≡◌, ℕ, ◌+◌, List, [], ◌∷◌, ◌++◌, length, Option, None, Some}
use Rattle.std.specs.List.{AllByRecursion}
use Rattle.ctr_rec.specs.declared.record.SlogItem.{SlogItem}
use Rattle.ctr_rec.specs.Members.{ItemFits}
use Rattle.ctr_undo.specs.declared.list.UndoItem.{UndoItem}
use Rattle.ctr_undo.specs.declared.list.UndoItem.TheVariants.{Slog, Orphan}

-- The items that are left, in the order of the secondary log, and the transactions that are left.
pub record UndoLeft : Type 0 where
  pub items : List SlogItem
  pub orphans : List ℕ

-- how many turns there are to come
abbrev pub left_in : UndoLeft → ℕ
left_in u = length u.items + length u.orphans

-- Undo has neither items nor orphans left.
abbrev pub IsUndoOver : UndoLeft → Type 0
IsUndoOver u = (u.items ≡ []) × (u.orphans ≡ [])

-- What is next goes: the latest item; or, where no item is left, the first transaction.
abbrev pub Goes : UndoItem → UndoLeft → UndoLeft → Type 0
Goes (Slog i) u v = (u.items ≡ v.items ++ i ∷ []) × (v.orphans ≡ u.orphans)
Goes (Orphan x) u v = (u.items ≡ []) × (v.items ≡ []) × (u.orphans ≡ x ∷ v.orphans)

-- What undo takes next is told, or that nothing is left.
abbrev pub IsNextLeft : UndoLeft → Option UndoItem → Type 0
IsNextLeft u None = IsUndoOver u
IsNextLeft u (Some item) = (v : UndoLeft) × Goes item u v

-- items are of pages and of entries of the catalog that there may be
abbrev pub ItemsFit : List SlogItem → Type 0
ItemsFit items = AllByRecursion ItemFits items

-- What is next in undo's list fits the format.
abbrev pub NextFits : UndoItem → Type 0
NextFits (Slog i) = ItemFits i
NextFits (Orphan x) = Unit {0}
