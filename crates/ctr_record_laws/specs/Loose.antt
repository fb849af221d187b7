-- Version entries that no chain has: what a Keep leaves for a Row, and what a Revert or a Trim
-- leaves for the cleaner.
use Rattle.std.specs.Prelude.{◌≡◌, ℕ, true, List}
use Rattle.ctr_area.specs.ctr_page.declared.rows.Place.{Place}
use Rattle.ctr_area.specs.Areas.{RowVersion, Older, Area}
use Rattle.ctr_area.specs.Chains.{older_bound, older_places, places_along}
use Rattle.ctr_area.specs.Sound.{IsAmong, IsUsedSlot}
use Rattle.ctr_record_laws.specs.Owed.{IsSpareCopy, Writing, OverHead, HeadMoves, PreviousKept, HeadKept, FirstVersion, IsInNoChain}

-- A version entry of the table is used, with this content, and is in no chain.
pub record IsLoose (area : Area) (e : ℕ) (q : Place) (it : Older) : Type 0 where
  pub here : IsAmong q (older_places area e)
  pub content : area.older q ≡ it
  pub used : it.used ≡ true
  pub unlinked : IsInNoChain area q

-- the version entries behind one
abbrev pub behind_entry : Area → Place → List Place
behind_entry area q = places_along older_bound area.older (area.older q).pointer

-- a Row of this way links the version entry to its slot
abbrev pub Links : Writing → Place → Type 0
Links OverHead q = ⊥
Links HeadMoves q = ⊥
Links (PreviousKept p) q = p ≡ q
Links (HeadKept p) q = p ≡ q
Links FirstVersion q = ⊥

-- a version was kept, at the last place, of what stands in the slot at the first
abbrev pub IsSpareFor : Area → ℕ → Place → RowVersion → Place → Type 0
IsSpareFor area e at version q = IsSpareCopy area e (area.slot at) version q

-- The slot is a used one of the table in the new area, and what it was in the old one.
pub record IsSameSlot (old new : Area) (e : ℕ) (at : Place) : Type 0 where
  pub used : IsUsedSlot new e at
  pub same : new.slot at ≡ old.slot at
