-- What is known of versions of rows of the loaded table, as they are read.
use Rattle.std.specs.Prelude.{◌≡◌, ◌≤◌, ℕ, ℤ, Bool, true, List, ◌∷◌, ◌++◌, map, length, Option, None, Some, if◌then◌else◌}
use Rattle.std.specs.Option.{option_map}
use Rattle.ctr_load.specs.Statements.{load_columns}
use Rattle.ctr_page.specs.declared.rows.Place.{Place}
use Rattle.ctr_versions.specs.Chains.{value_seen}
use Rattle.ctr_area.specs.Areas.{RowVersion, Slot, Older, Area}
use Rattle.ctr_area.specs.Chains.{if_any, places_along, chain_of}
use Rattle.ctr_area.specs.Reading.{version_said}
use Rattle.ctr_pvs.specs.Slots.{part_lent}
use Rattle.ctr_pvs.specs.declared.slot.LentPart.{LentPart}
use Rattle.ctr_totals.specs.declared.facts.VersionFacts.{VersionFacts}
use Rattle.ctr_totals.specs.declared.facts.SlotFacts.{SlotFacts}
use Rattle.ctr_totals.specs.declared.facts.OlderFacts.{OlderFacts}
use Rattle.ctr_totals.specs.Totals.{number_of_row}

-- ---- what is read

-- whose a version is, and the number of its row
abbrev pub IsKnown : RowVersion → VersionFacts → Type 0
IsKnown v f = (v.0 ≡ f.xid) × (option_map number_of_row v.1 ≡ f.number)

-- A version that may be there, and is lent with a payload, is known as its facts say.
abbrev pub IsKnownIfAny : ℤ → Option LentPart → Option VersionFacts → Type 0
IsKnownIfAny key None None = Unit {0}
IsKnownIfAny key (Some p) (Some f) =
    8 ≤ length p.payload.now → IsKnown (version_said load_columns key (part_lent p)) f
IsKnownIfAny key None (Some f) = ⊥
IsKnownIfAny key (Some p) None = ⊥

-- of a version of the area that may be there
abbrev pub AreKnown : Option RowVersion → Option VersionFacts → Type 0
AreKnown None None = Unit {0}
AreKnown (Some v) (Some f) = IsKnown v f
AreKnown None (Some f) = ⊥
AreKnown (Some v) None = ⊥

-- What is known of a slot: whether it is used; and if so its versions, and where it leads.
pub record IsKnownSlot (slot : Slot) (f : SlotFacts) : Type 0 where
  pub used : slot.used ≡ f.used
  pub head : f.used ≡ true → IsKnown slot.head f.head
  pub previous : f.used ≡ true → AreKnown slot.previous f.previous
  pub next : f.used ≡ true → slot.pointer ≡ f.next

-- What is known of a version entry: its version, and where it leads.
pub record IsKnownOlder (older : Older) (f : OlderFacts) : Type 0 where
  pub version : IsKnown older.version f.version
  pub next : older.pointer ≡ f.next

-- ---- what is seen

-- the number of the first version whose transaction passes; none where that is a tombstone
abbrev pub number_seen : (ℕ → Bool) → List RowVersion → Option ℤ
number_seen test vs = option_map number_of_row (value_seen test vs)

-- The number of the first version that passes along the pointers, of so many version entries from a
-- place on.
abbrev pub number_along : (ℕ → Bool) → Area → ℕ → Place → Option ℤ
number_along test area n at =
    number_seen test (map (λ q. (area.older q).version) (places_along n area.older at))

-- The number of the row's version that passes at a slot, where the slot is used.
abbrev pub number_at : (ℕ → Bool) → Area → Place → Option ℤ
number_at test area at =
    if (area.slot at).used then number_seen test (chain_of area.older (area.slot at)) else None

-- What a slot says alone: it isn't used, and has no number; its head passes, or else its previous
-- version does, and this is its number; or neither does.
abbrev pub IsSeenIn : (ℕ → Bool) → SlotFacts → Option (Option ℤ) → Type 0
IsSeenIn test f (Some n) = (vs : List RowVersion) → (slot : Slot) → IsKnownSlot slot f
    → n ≡ (if slot.used then number_seen test (slot.head ∷ (if_any slot.previous ++ vs)) else None)
IsSeenIn test f None = (vs : List RowVersion) → (slot : Slot) → IsKnownSlot slot f
    → (slot.used ≡ true)
    × (number_seen test (slot.head ∷ (if_any slot.previous ++ vs)) ≡ number_seen test vs)
