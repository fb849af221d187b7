-- The row that a session sees.
use Rattle.std.specs.Prelude.{◌≡◌, ℕ, Bool, Option, Result, Ok, Err}
use Rattle.ctr_types.specs.declared.memory.OutOfMemory.{OutOfMemory}
use Rattle.ctr_types.specs.declared.value.Row.{Row}
use Rattle.ctr_disk.specs.declared.fault.StoreFault.{StoreFault}
use Rattle.ctr_versions.specs.Chains.{value_seen}
use Rattle.ctr_page.specs.declared.walk.BadChain.{BadChain}
use Rattle.ctr_page.specs.declared.rows.Place.{Place}
use Rattle.ctr_names.specs.area_Areas.{Area}
use Rattle.ctr_names.specs.area_Chains.{chain_of}
use Rattle.ctr_chain.specs.declared.seeking.Found.{Found}
use Rattle.ctr_chain.specs.declared.view.ReadRefusal.{ReadRefusal}
use Rattle.ctr_chain.specs.declared.view.ReadRefusal.TheVariants as refusal

-- the row that is seen at a place: that of the first version that passes, none for a tombstone
abbrev pub visible_row : (ℕ → Bool) → Area → Place → Option Row
visible_row test area at = value_seen test (chain_of area.older (area.slot at))

-- A reading's answer, of which memory is no fault of the store.
abbrev pub as_read : Result (Option Row) ReadRefusal
    → Result (Result (Option Row) OutOfMemory) StoreFault
as_read (Ok row) = Ok (Ok row)
as_read (Err (refusal.Store fault)) = Err fault
as_read (Err refusal.OutOfMemory) = Ok (Err (record {}))

-- The reading ends as its search does: without damage, or by the damage of what was read.
abbrev pub EndsReading : Result (Option Found) BadChain
    → Result (Result (Option Row) OutOfMemory) BadChain → Type 0
EndsReading searched (Ok given) = (found : Option Found) × (searched ≡ Ok found)
EndsReading searched (Err bad) = searched ≡ Err bad
