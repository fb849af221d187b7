-- What a scan of the slots of a table gives.
use Rattle.std.specs.Prelude.{◌≡◌, ℕ, ℤ, Bool, List, [], ◌∷◌, Option, None, Some, T, if◌then◌else◌}
use Rattle.std.specs.Ordering.{int_cmp}
use Rattle.std.specs.FinMap.Entries.{find, put, is_sorted}
use Rattle.ctr_types.specs.declared.value.Row.{Row}
use Rattle.ctr_paged.specs.page_Place.{Place}
use Rattle.ctr_paged.specs.area_Areas.{Area}
use Rattle.ctr_paged.specs.area_Sound.{IsUsedSlot}
use Rattle.ctr_chain.specs.Visible.{visible_row}

-- no used slot of a table has the key
abbrev pub IsNoSlot : Area → ℕ → ℤ → Type 0
IsNoSlot area e key = (at : Place) → IsUsedSlot area e at → (area.slot at).key ≡ key → ⊥

-- Rows in the order of their keys are what the used slots of a table show to a test: each slot's
-- row under its key, none where it shows none, and none of a key that no used slot has. However the
-- slots are gone through.
pub record AreScanned (test : ℕ → Bool) (area : Area) (e : ℕ) (rows : List (ℤ × Row)) : Type 0 where
  pub sorted : T (is_sorted int_cmp rows)
  pub used : (at : Place) → IsUsedSlot area e at
      → find int_cmp (area.slot at).key rows ≡ visible_row test area at
  pub others : (key : ℤ) → IsNoSlot area e key → find int_cmp key rows ≡ None

-- the rows with the one that a slot shows, where it shows one
abbrev pub with_seen : ℤ → Option Row → List (ℤ × Row) → List (ℤ × Row)
with_seen key None rows = rows
with_seen key (Some row) rows = put int_cmp key row rows

-- The rows that are gathered of these places, the last first: those of used slots, by their keys.
abbrev pub rows_scanned : (ℕ → Bool) → Area → List Place → List (ℤ × Row)
rows_scanned test area [] = []
rows_scanned test area (at ∷ places) =
    if (area.slot at).used then
    with_seen (area.slot at).key (visible_row test area at) (rows_scanned test area places)
    else rows_scanned test area places
