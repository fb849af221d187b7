-- A pass along the slots of one entry.
use Rattle.std.specs.Prelude.{◌≡◌, ℕ, List, [], ◌∷◌, Option, None, Some}
use Rattle.ctr_page.specs.declared.rows.Place.{Place}
use Rattle.ctr_actions.specs.Sites.{Site}
use Rattle.ctr_cursor.specs.declared.position.Position.{Position}
use Rattle.ctr_cursor.specs.declared.position.Position.TheVariants.{Slot}
use Rattle.ctr_cursor.specs.Pass.{next_position}
use Rattle.ctr_totals.specs.declared.counting.SlotAt.{SlotAt}

-- From a position on a pass comes by the slots of an entry at these places, and then by none.
abbrev pub GoesAlong : Site → ℕ → Option Position → List Place → Type 0
GoesAlong s e x [] = (f b : ℕ) (at : Place) → x ≡ Some (Slot f b at) → ⊥
GoesAlong s e x (p ∷ ps) =
    (b : ℕ) × (x ≡ Some (Slot e b p)) × GoesAlong s e (next_position s (Slot e b p)) ps

-- A position is that of a slot; or it is of none.
abbrev pub IsSlotIn : Option Position → Option SlotAt → Type 0
IsSlotIn x (Some s) = x ≡ Some (Slot s.entry s.bucket s.place)
IsSlotIn x None = (e b : ℕ) (at : Place) → x ≡ Some (Slot e b at) → ⊥
