-- Rows that are gathered slot by slot, page by page, bucket by bucket.
use Rattle.std.specs.Prelude.{◌≡◌, ◌≢◌, ℕ, ◌==◌, ℤ, Bool, List, [], ◌∷◌, Option, None, Some, Result, Ok, Err, if◌then◌else◌}
use Rattle.ctr_types.specs.declared.memory.OutOfMemory.{OutOfMemory}
use Rattle.ctr_types.specs.declared.value.Row.{Row}
use Rattle.ctr_rec.specs.declared.decoding.BadRecord.{BadRecord}
use Rattle.ctr_page.specs.declared.checks.Chain.{Chain}
use Rattle.ctr_page.specs.declared.checks.Chain.TheVariants.{Rows, Versions}
use Rattle.ctr_page.specs.declared.rows.Place.{Place}
use Rattle.ctr_page.specs.declared.rows.RowSlot.{RowSlot}
use Rattle.ctr_page.specs.Reading.{header_in, slot_at}
use Rattle.ctr_page.specs.Columns.{kinds_width}
use Rattle.ctr_page.specs.Damage.{header_check}
use Rattle.ctr_redo.specs.States.{State}
use Rattle.ctr_area.specs.Areas.{Slot, Area}
use Rattle.ctr_area.specs.Chains.{pages_bound, pages_from, places_from}
use Rattle.ctr_area.specs.Sound.{IsAmong}
use Rattle.ctr_walk.specs.record_effects_States.{pages_in, area_in}
use Rattle.ctr_walk.specs.record_effects_Standing.{IsDatabaseState}
use Rattle.ctr_walk.specs.declared.table.TableOf.{TableOf}
use Rattle.ctr_walk.specs.Tables.{kinds_said, first_of_chain}
use Rattle.ctr_views.specs.pvs_Table.{TableSaid}
use Rattle.ctr_views.specs.pvs_Reading.{row_on_check}
use Rattle.ctr_views.specs.chain_Visible.{visible_row}
use Rattle.ctr_views.specs.Scanning.{with_seen}
use Rattle.ctr_reading.specs.declared.pages.PageSlots.{PageSlots}

-- ---- a slot

-- the key of a slot, where it is used
abbrev pub key_of_slot : RowSlot → Option ℤ
key_of_slot s = if s.used == 1 then Some s.key else None

-- The key of a slot of the area; none where it isn't used.
abbrev pub key_there : Slot → Option ℤ
key_there slot = if slot.used then Some slot.key else None

-- What a look at the slot of a number on a page of a table tells: its key, and that it passes its
-- check where it has none; or the damage of a slot that fails.
abbrev pub KeySaid : ℕ → TableOf → ℕ → List ℕ → Result (Option ℤ) BadRecord → Type 0
KeySaid counted t number page (Ok key) =
    (key ≡ None → row_on_check counted t.entry (kinds_said t) number page ≡ Ok tt)
    × (key ≡ key_of_slot (slot_at (kinds_width (kinds_said t)) number page))
KeySaid counted t number page (Err bad) =
    row_on_check counted t.entry (kinds_said t) number page ≡ Err bad

-- rows with the one that is seen at a slot, where it is used and shows one
abbrev pub gathered_at : (ℕ → Bool) → Area → Place → List (ℤ × Row) → List (ℤ × Row)
gathered_at test area at rows =
    if (area.slot at).used then with_seen (area.slot at).key (visible_row test area at) rows
    else rows

-- rows with those that are seen at slots, one after another
abbrev pub gathered : (ℕ → Bool) → Area → List Place → List (ℤ × Row) → List (ℤ × Row)
gathered test area [] rows = rows
gathered test area (at ∷ places) rows = gathered test area places (gathered_at test area at rows)

-- The rows become these. Memory runs out only where these are any.
abbrev pub Gathers : {T : Type 0} → List (ℤ × Row) → List (ℤ × Row) → Result T OutOfMemory → Type 0
Gathers these rows (Ok x) = rows ≡ these
Gathers these rows (Err e) = these ≢ []

-- ---- a page

-- The header of a page passes its check, and leads on to this page; or it doesn't.
abbrev pub NextSaid : Chain → ℕ → List ℕ → Result ℕ BadRecord → Type 0
NextSaid chain counted page (Ok n) =
    (header_check chain counted page ≡ Ok tt) × (n ≡ (header_in page).next)
NextSaid chain counted page (Err bad) = header_check chain counted page ≡ Err bad

-- Slots are those of a page: its table, and how many there are.
pub record ArePageSlots (s : State) (slots : PageSlots) : Type 0 where
  pub table : TableSaid 1 s.counted (pages_in s) slots.page (Ok slots.table)
  pub count : slots.count ≡ (area_in s).room slots.page

-- ---- a bucket

-- the chain is one of rows
abbrev pub IsOfBucket : Chain → Type 0
IsOfBucket (Rows e b) = Unit {0}
IsOfBucket (Versions e) = ⊥

-- A page is one of a bucket, where the pages may be a database's.
pub record IsBucketPage (chain : Chain) (p : ℕ) (s : State) : Type 0 where
  pub sound : IsDatabaseState s
  pub rows : IsOfBucket chain
  pub on : IsAmong p (pages_from pages_bound (area_in s).header (first_of_chain (area_in s) chain))

-- A page is the first one of a bucket, where the pages may be a database's.
pub record IsBucket (chain : Chain) (p : ℕ) (s : State) : Type 0 where
  pub sound : IsDatabaseState s
  pub rows : IsOfBucket chain
  pub first : p ≡ first_of_chain (area_in s) chain

-- the places of a bucket of a table
abbrev pub bucket_places : Area → ℕ → ℕ → List Place
bucket_places area e bucket = places_from area (first_of_chain area (Rows e bucket))
