-- The search of a bucket of a table, and what it finds.
use Rattle.std.specs.Prelude.{◌≡◌, ℕ, ℤ, false, true, List, Option, None, Some, Result}
use Rattle.ctr_page.specs.declared.checks.Chain.TheVariants.{Rows}
use Rattle.ctr_page.specs.declared.walk.BadChain.{BadChain}
use Rattle.ctr_page.specs.declared.rows.Place.{Place}
use Rattle.ctr_page.specs.Places.{slot_size, room_for}
use Rattle.ctr_page.specs.Columns.{kinds_width}
use Rattle.ctr_passed.specs.area_Areas.{Area}
use Rattle.ctr_passed.specs.area_Chains.{places_from}
use Rattle.ctr_passed.specs.area_Checked.{kinds_at}
use Rattle.ctr_passed.specs.area_Sound.{IsAmong, IsUsedSlot, AreKeyed}
use Rattle.ctr_walk.specs.Along.{ChainSought}
use Rattle.ctr_walk.specs.Tables.{chain_sought, first_of_chain, EndsChain}
use Rattle.ctr_heap.specs.declared.slots.SlotSought.{SlotSought}
use Rattle.ctr_heap.specs.Slots.{EndsSlots}

-- what is sought in a bucket of a table, by the table's columns
abbrev pub bucket_sought : (ℕ → List ℕ) → ℕ → ℕ → ℕ → SlotSought → ChainSought
bucket_sought pages counted e bucket sought =
    chain_sought pages counted (Rows e bucket) (EndsSlots sought)

-- Where the search of a bucket ends: at the damage of the table's entry; or the entry passes, and
-- it ends along the bucket's chain.
abbrev pub EndsBucket : ℕ → (ℕ → List ℕ) → ℕ → ℕ → SlotSought → Result (Option Place) BadChain
    → Type 0
EndsBucket counted pages e bucket sought result =
    EndsChain counted pages (Rows e bucket) (EndsSlots sought) result

-- ---- in the area

-- how many slots a page of a table has
abbrev pub slots_on_page : Area → ℕ → ℕ
slots_on_page area e = room_for (slot_size (kinds_width (kinds_at area e)))

-- The search tells a used slot of the table that has the key; or no slot has it, where each key is
-- in its bucket.
abbrev pub FindsKey : Area → ℕ → ℤ → Option Place → Type 0
FindsKey area e key (Some at) = IsUsedSlot area e at × ((area.slot at).key ≡ key)
FindsKey area e key None =
    AreKeyed area → (at : Place) → IsUsedSlot area e at → (area.slot at).key ≡ key → ⊥

-- The search tells a free slot of the bucket's chain; or each of them is used.
abbrev pub FindsFree : Area → ℕ → ℕ → Option Place → Type 0
FindsFree area e bucket (Some at) =
    IsAmong at (places_from area (first_of_chain area (Rows e bucket)))
    × ((area.slot at).used ≡ false)
FindsFree area e bucket None =
    (at : Place) → IsAmong at (places_from area (first_of_chain area (Rows e bucket)))
    → (area.slot at).used ≡ true
