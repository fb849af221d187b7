-- The rows of a table that a session sees, and why they aren't read.
use Rattle.std.specs.Prelude.{◌≡◌, ◌≢◌, ◌⊎◌, ℕ, ℤ, Bool, List, [], map, Option, None, Some, Result, Ok, Err}
use Rattle.std.specs.Option.{option_to_list}
use Rattle.ctr_types.specs.declared.memory.OutOfMemory.{OutOfMemory}
use Rattle.ctr_types.specs.declared.value.Row.{Row}
use Rattle.ctr_types.specs.declared.value.Rows.{Rows}
use Rattle.ctr_disk.specs.declared.fault.StoreFault.{StoreFault}
use Rattle.ctr_disk.specs.declared.fault.StoreFault.TheVariants.{Fault}
use Rattle.ctr_meta.specs.Tables.{Tables}
use Rattle.ctr_meta.specs.Seen.{xid_is_seen}
use Rattle.ctr_page.specs.declared.rows.Place.{Place}
use Rattle.ctr_area.specs.Areas.{Area}
use Rattle.ctr_area.specs.Sound.{IsUsedSlot}
use Rattle.ctr_views.specs.chain_Rows.{GivesRow}
use Rattle.ctr_views.specs.chain_Visible.{visible_row}
use Rattle.ctr_views.specs.chain_ReadRefusal.{ReadRefusal}
use Rattle.ctr_views.specs.chain_ReadRefusal.TheVariants as refusal
use Rattle.ctr_views.specs.Scanning.{AreScanned, IsNoSlot}
use Rattle.ctr_reading.specs.declared.sight.Sight.{Sight}

-- ---- answers

-- A reading's answer, of which want of memory is no fault of the store.
abbrev pub as_told : {T : Type 0} → Result T ReadRefusal
    → Result (Result T OutOfMemory) StoreFault
as_told (Ok x) = Ok (Ok x)
as_told (Err (refusal.Store fault)) = Err fault
as_told (Err refusal.OutOfMemory) = Ok (Err (record {}))

-- The disk failed, or memory was refused: no damage is told.
abbrev pub IsDiskOrMemory : ReadRefusal → Type 0
IsDiskOrMemory (refusal.Store fault) = fault ≡ Fault
IsDiskOrMemory refusal.OutOfMemory = Unit {0}

-- ---- rows

-- what who reads sees of a transaction
abbrev pub sight_sees : Tables → Sight → ℕ → Bool
sight_sees tables sight = xid_is_seen tables sight.snapshot.now sight.me

-- The row of a key is what the used slot of the key shows to a test; or no used slot has it, and
-- there is none.
abbrev pub IsRowSeen : (ℕ → Bool) → Area → ℕ → ℤ → Option Row → Type 0
IsRowSeen test area e key row =
    ((at : Place) × IsUsedSlot area e at × ((area.slot at).key ≡ key)
    × (row ≡ visible_row test area at))
    ⊎ (IsNoSlot area e key × (row ≡ None))

-- That row is given. Memory runs out only where there is one.
abbrev pub GivesSeen : (ℕ → Bool) → Area → ℕ → ℤ → Result (Option Row) OutOfMemory → Type 0
GivesSeen test area e key given =
    (row : Option Row) × IsRowSeen test area e key row × GivesRow row given

-- Rows are those that the slots of a table show to a test: all of them in the order of their keys,
-- or the one of a key.
abbrev pub AreShown : (ℕ → Bool) → Area → ℕ → Option ℤ → List Row → Type 0
AreShown test area e None rows =
    (entries : List (ℤ × Row)) × AreScanned test area e entries × (rows ≡ map (λ x. x.1) entries)
AreShown test area e (Some key) rows =
    (row : Option Row) × IsRowSeen test area e key row × (rows ≡ option_to_list row)

-- A call gives these rows. Memory runs out only where there are any.
abbrev pub GivesRows : List Row → Result Rows OutOfMemory → Type 0
GivesRows rows (Ok given) = given.rows ≡ rows
GivesRows rows (Err e) = rows ≢ []

-- All rows that are shown are given, so.
abbrev pub GivesShown : (ℕ → Bool) → Area → ℕ → Result Rows OutOfMemory → Type 0
GivesShown test area e given =
    (rows : List Row) × AreShown test area e None rows × GivesRows rows given
