-- Damage that a call finds on pages of a store, and tells as damage of the file of pages.
use Rattle.std.specs.Prelude.{◌≡◌, ◌⊎◌, ◌+◌, ℕ, Result, Ok, Err, ⊤}
use Rattle.ctr_types.specs.Damage.{damage_of}
use Rattle.ctr_types.specs.declared.file.File.TheVariants.{Pages}
use Rattle.ctr_disk.specs.declared.disk.Disk.{Ghosts}
use Rattle.ctr_disk.specs.Image.{Image}
use Rattle.ctr_disk.specs.declared.fault.StoreFault.{StoreFault}
use Rattle.ctr_disk.specs.declared.fault.StoreFault.TheVariants.{Fault, Damaged}
use Rattle.ctr_store.specs.rec_BadRecord.{BadRecord}
use Rattle.ctr_record_effects.specs.page_BadChain.{BadChain}
use Rattle.ctr_record_effects.specs.page_BadChain.TheVariants.{OnPage, TooLong}
use Rattle.ctr_store.specs.RecordChecks.{record_damage}
use Rattle.ctr_store.specs.Store.{View, LeavesPage, page_home}
use Rattle.ctr_walk.specs.declared.fault.SearchFault.{SearchFault}
use Rattle.ctr_walk.specs.declared.fault.SearchFault.TheVariants.{Store, Bad}

-- What a search is to the store whose pages it reads: where each was given, the search did, with
-- its answer or the damage that it met; else it failed as the store did.
abbrev pub searched : {T : Type 0} → Result T SearchFault → Result (Result T BadChain) StoreFault
searched (Ok x) = Ok (Ok x)
searched (Err (Bad bad)) = Ok (Err bad)
searched (Err (Store e)) = Err e

-- What was found on a page, for a search: damage there is damage of this page.
abbrev pub found_on : {T : Type 0} → ℕ → Result T BadRecord → Result T SearchFault
found_on p (Ok x) = Ok x
found_on p (Err bad) = Err (Bad (OnPage p bad))

-- A search of one page alone ends as a rule says of the page, and damage is damage of this page.
abbrev pub EndsOnPage : {T : Type 0} → ℕ → (Result T BadRecord → Type 0) → Result T BadChain
    → Type 0
EndsOnPage p Ends (Ok x) = Ends (Ok x)
EndsOnPage p Ends (Err (OnPage q bad)) = (q ≡ p) × Ends (Err bad)
EndsOnPage p Ends (Err (TooLong last most)) = ⊥

-- the page that damage is told of: the one that it stands on, or the last of a chain that is too
-- long
abbrev pub damaged_page : BadChain → ℕ
damaged_page (OnPage p bad) = p
damaged_page (TooLong last most) = last

-- Damage of a page whose home begins at a place of the file of pages. A byte of it stands 13 bytes
-- behind; a chain that is too long, of so many pages at most, has one more.
abbrev pub damage_behind : ℕ → BadChain → StoreFault
damage_behind home (OnPage p bad) = record_damage Pages (home + 13) bad
damage_behind home (TooLong last most) = Damaged (damage_of Pages home most (most + 1))

-- as a store tells it: by the home that the page's value stands in
abbrev pub damage_told : {D : Type 0} → Ghosts D → View D → BadChain → StoreFault
damage_told g v bad = damage_behind (page_home g (damaged_page bad) v) bad

-- What a call answers that ends so: what was found, or damage as it is told. A fault of the disk
-- says nothing of pages.
abbrev pub EndsTold : {B T : Type 0} → (B → StoreFault) → (Result T B → Type 0)
    → Result T StoreFault → Type 0
EndsTold told Ends (Ok x) = Ends (Ok x)
EndsTold told Ends (Err Fault) = Unit {0}
EndsTold {B} told Ends (Err (Damaged d)) = (bad : B) × Ends (Err bad) × (told bad ≡ Damaged d)

-- What was found is answered. Damage is answered by an error, which under this premise tells it,
-- unless the disk failed.
abbrev pub TellsFound : {T : Type 0} → Type 0 → (BadChain → StoreFault) → Result T SearchFault
    → Result T StoreFault → Type 0
TellsFound Known told (Ok x) result = result ≡ Ok x
TellsFound Known told (Err (Bad bad)) result =
    (e : StoreFault) × (result ≡ Err e) × (Known → (e ≡ Fault) ⊎ (e ≡ told bad))
TellsFound Known told (Err (Store e)) result = result ≡ Err e

-- What a call leaves that reads pages. Where it tells damage, that is one that reading was
-- answered; or it was found on a page that was read, and the store goes on.
abbrev pub ReadsPages : {D T : Type 0} → Image → Ghosts D → View D → View D → Result T StoreFault
    → Type 0
ReadsPages first g a b (Ok x) = LeavesPage first g a b (Ok x)
ReadsPages {T} first g a b (Err Fault) = LeavesPage {T = T} first g a b (Err Fault)
ReadsPages {T} first g a b (Err (Damaged d)) = LeavesPage {T = T} first g a b (Err (Damaged d))
    ⊎ LeavesPage {T = ⊤} first g a b (Ok tt)
