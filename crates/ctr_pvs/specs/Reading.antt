-- Version entries as they are read: each is checked where it is read.
use Rattle.std.specs.Prelude.{◌≡◌, ◌≤◌, ℕ, ◌-◌, List, ⊤, Result, Ok, Err}
use Rattle.ctr_types.specs.declared.value.Kind.{Kind}
use Rattle.ctr_bytes.specs.Fields.{field}
use Rattle.ctr_bytes.specs.Following.{◌>>=◌}
use Rattle.ctr_rec.specs.declared.decoding.BadRecord.{BadRecord}
use Rattle.ctr_rec.specs.Damage.{at_most}
use Rattle.ctr_page.specs.declared.checks.Chain.TheVariants.{Rows, Versions}
use Rattle.ctr_page.specs.declared.walk.BadChain.{BadChain}
use Rattle.ctr_page.specs.declared.rows.Place.{Place}
use Rattle.ctr_page.specs.declared.rows.VersionEntry.{VersionEntry}
use Rattle.ctr_page.specs.declared.rows.RowSlot.{RowSlot}
use Rattle.ctr_page.specs.declared.table.TheConstants.{BUCKET_AT}
use Rattle.ctr_page.specs.Places.{slot_size, kept_size, room_for}
use Rattle.ctr_page.specs.Reading.{slot_at, older_at}
use Rattle.ctr_page.specs.Columns.{kinds_width, slot_start, kept_start}
use Rattle.ctr_page.specs.Damage.{header_check, slot_check, kept_check}
use Rattle.ctr_passed.specs.area_Reading.{header_on, width_on, area_of}
use Rattle.ctr_passed.specs.area_Checked.{kinds_at}
use Rattle.ctr_walk.specs.declared.table.TableOf.{TableOf}
use Rattle.ctr_walk.specs.Tables.{kinds_said}
use Rattle.ctr_pvs.specs.Table.{there_check, told_of, owner_of, table_check}

-- a page has a slot or a version entry of this number, where they are of this size
abbrev pub lies_check : ℕ → ℕ → Result ⊤ BadRecord
lies_check size number = at_most 0 (room_for size - 1) number

-- The version entry of a number on a page to which a chain of versions of an entry of the catalog
-- leads: the header, the number, the version entry.
abbrev pub kept_on_check : ℕ → ℕ → List Kind → ℕ → List ℕ → Result ⊤ BadRecord
kept_on_check counted e kinds number page = do
  header ← header_check (Versions e) counted page
  lies ← lies_check (kept_size (kinds_width kinds)) number
  kept_check kinds counted (kept_start kinds number) page

-- The check of a version entry passes and tells the entry; or the check tells what is wrong.
abbrev pub VersionSaid : ℕ → TableOf → ℕ → List ℕ → Result VersionEntry BadRecord → Type 0
VersionSaid counted t number page (Ok v) =
    (kept_on_check counted t.entry (kinds_said t) number page ≡ Ok tt)
    × (v ≡ older_at (kinds_width (kinds_said t)) number page)
VersionSaid counted t number page (Err bad) =
    kept_on_check counted t.entry (kinds_said t) number page ≡ Err bad

-- The check of a page of versions passes and tells how wide its rows are; or the check tells what
-- is wrong.
abbrev pub WidthSaid : ℕ → TableOf → ℕ → List ℕ → Result ℕ BadRecord → Type 0
WidthSaid counted t number page (Ok w) =
    (kept_on_check counted t.entry (kinds_said t) number page ≡ Ok tt)
    × (w ≡ kinds_width (kinds_said t))
WidthSaid counted t number page (Err bad) =
    kept_on_check counted t.entry (kinds_said t) number page ≡ Err bad

-- the check of a page to which a chain of versions of an entry of the catalog leads
abbrev pub versions_there : ℕ → ℕ → ℕ → List ℕ → Result ⊤ BadRecord
versions_there counted e p page = there_check (header_check (Versions e) counted page) counted p

-- the version entry at a place to which a chain of the table leads
abbrev pub kept_at_check : ℕ → (ℕ → List ℕ) → ℕ → Place → Result ⊤ BadRecord
kept_at_check counted pages e at =
    versions_there counted e at.page (pages at.page)
    >>= λ _. kept_on_check counted e (kinds_at (area_of pages) e) at.slot (pages at.page)

-- The version entry at a place: the table of its page, and then the version entry, by the table's
-- columns.
abbrev pub version_check_at : ℕ → (ℕ → List ℕ) → Place → Result ⊤ BadChain
version_check_at counted pages at =
    table_check 2 counted pages at.page
    >>= λ _. told_of at.page (kept_on_check counted (owner_of (pages at.page))
    (kinds_at (area_of pages) (owner_of (pages at.page))) at.slot (pages at.page))

-- A check of a place passes, and its page is one of versions of rows so wide, on which an entry
-- lies there.
pub record PassesAt (check : Result ⊤ BadChain) (pages : ℕ → List ℕ) (at : Place) (w : ℕ)
    : Type 0 where
  pub passes : check ≡ Ok tt
  pub behind_catalog : 3 ≤ at.page
  pub of_kind : (header_on pages at.page).kind ≡ 2
  pub wide : w ≡ width_on pages at.page
  pub lies : lies_check (kept_size w) at.slot ≡ Ok tt

-- so it is found, with the width; or what is wrong is
abbrev pub EndsAt : Result ⊤ BadChain → (ℕ → List ℕ) → Place → Result ℕ BadChain → Type 0
EndsAt check pages at (Ok w) = PassesAt check pages at w
EndsAt check pages at (Err bad) = check ≡ Err bad

-- ---- slots

-- The slot of a number on a page of rows of an entry of the catalog: the header, where the bucket
-- is the one that it says; the number; the slot.
abbrev pub row_on_check : ℕ → ℕ → List Kind → ℕ → List ℕ → Result ⊤ BadRecord
row_on_check counted e kinds number page = do
  header ← header_check (Rows e (field 1 BUCKET_AT page)) counted page
  lies ← lies_check (slot_size (kinds_width kinds)) number
  slot_check kinds counted (slot_start kinds number) page

-- The check of a row's slot passes and tells the slot; or the check tells what is wrong.
abbrev pub RowSaid : ℕ → TableOf → ℕ → List ℕ → Result RowSlot BadRecord → Type 0
RowSaid counted t number page (Ok s) =
    (row_on_check counted t.entry (kinds_said t) number page ≡ Ok tt)
    × (s ≡ slot_at (kinds_width (kinds_said t)) number page)
RowSaid counted t number page (Err bad) =
    row_on_check counted t.entry (kinds_said t) number page ≡ Err bad

-- The slot at a place: the table of its page, and then the slot, by the table's columns.
abbrev pub row_check_at : ℕ → (ℕ → List ℕ) → Place → Result ⊤ BadChain
row_check_at counted pages at =
    table_check 1 counted pages at.page
    >>= λ _. told_of at.page (row_on_check counted (owner_of (pages at.page))
    (kinds_at (area_of pages) (owner_of (pages at.page))) at.slot (pages at.page))
