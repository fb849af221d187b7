-- What is wrong with a record where it stands in a log: the first check that fails, in this order.
use Rattle.std.specs.Prelude.{◌≡◌, ◌⊎◌, ◌<◌, ◌+◌, ◌-◌, ◌==◌, ℕ, min, if◌then◌else◌, nat_lt, List, length, take, Option, Some, None, Result, Ok, Err, ⊤, slice_get}
use Rattle.ctr_types.specs.Damage.{damage_of}
use Rattle.ctr_types.specs.declared.file.File.{File}
use Rattle.ctr_disk.specs.declared.fault.StoreFault.{StoreFault}
use Rattle.ctr_disk.specs.declared.fault.StoreFault.TheVariants.{Damaged}
use Rattle.ctr_disk.specs.Image.{Image}
use Rattle.ctr_base.specs.ctr_home.declared.root.Root.{Root}
use Rattle.ctr_base.specs.ctr_home.declared.block.Block.TheVariants.{Root as RootBlock}
use Rattle.ctr_base.specs.ctr_home.Blocks.{value_of}
use Rattle.ctr_base.specs.ctr_home.Roots.{SaysRoot}
use Rattle.ctr_rec.specs.bytes_Fields.{field}
use Rattle.ctr_base.specs.log_Visit.{Visit}
use Rattle.ctr_base.specs.log_ReadError.{ReadError}
use Rattle.ctr_base.specs.log_ReadError.TheVariants.{Store, OutOfMemory}
use Rattle.ctr_base.specs.log_Visits.{visit_bytes}
use Rattle.ctr_rec.specs.declared.decoding.BadRecord.{BadRecord}
use Rattle.ctr_rec.specs.declared.record.Overlay.{Overlay}
use Rattle.ctr_rec.specs.declared.record.Record.{Record}
use Rattle.ctr_rec.specs.declared.table.Tag.{Tag}
use Rattle.ctr_rec.specs.Table.{layout}
use Rattle.ctr_rec.specs.Damage.{wrong, expect, checks}
use Rattle.ctr_rec.specs.Checkpoint.{checkpoint_checks}
use Rattle.ctr_rec.specs.Spelling.{record_bytes}
use Rattle.ctr_base.specs.meta_Tables.{Tables}
use Rattle.ctr_base.specs.meta_Effects.{tables_of}
use Rattle.ctr_base.specs.meta_Needs.{needs}
use Rattle.ctr_base.specs.meta_Kept.{IsLogged}
use Rattle.ctr_base.specs.redo_Overlaid.{overlay_of}
use Rattle.ctr_base.specs.redo_Images.{records_in}

-- where the first record of a file stands: behind a gate, the head of a batch, and a length
abbrev pub first_record_at : ℕ
first_record_at = 29

-- The first record of a generation is a Checkpoint, and no other is: 18 is wanted at another place.
abbrev pub first_record_check : ℕ → List ℕ → Result ⊤ BadRecord
first_record_check at bytes =
    if at == first_record_at then expect 0 1 (field 1 0 bytes) else
    if field 1 0 bytes == 1 then Err (wrong 0 18 1) else Ok tt

-- bytes that are no record are refused so, by the row of the record that begins with their first
pub record IsRefusedBytes (bytes : List ℕ) (bad : BadRecord) : Type 0 where
  pub tag : (field 1 0 bytes ≡ 0) ⊎ (18 < field 1 0 bytes) → bad ≡ wrong 0 18 (field 1 0 bytes)
  pub checkpoint : field 1 0 bytes ≡ 1 → checkpoint_checks bytes ≡ Err bad
  pub exact : (t : Tag) → (layout t).number ≡ field 1 0 bytes → checks (layout t) bytes ≡ Err bad

-- a page is counted; where it isn't, the place is its overlay's
abbrev pub overlay_page_check : ℕ → ℕ → Option Overlay → Result ⊤ BadRecord
overlay_page_check pages len None = Ok tt
overlay_page_check pages len (Some o) =
    if nat_lt o.page pages then Ok tt else
    Err (wrong (len - length o.bytes - 9) (pages - 1) o.page)

-- The bytes at a place are a record that passes all checks, behind records that left these tables,
-- in a database of so many pages.
pub record PassesAs (pages at : ℕ) (t : Tables) (bytes : List ℕ) (r : Record) : Type 0 where
  pub logged : IsLogged r
  pub bytes_are : record_bytes r ≡ bytes
  pub place : first_record_check at bytes ≡ Ok tt
  pub counted : overlay_page_check pages (length bytes) (overlay_of r) ≡ Ok tt
  pub fits : needs r t ≡ Ok tt

-- damage of a record that stands at a place of a file: it says the byte there, as far as 64 bits
-- tell it
abbrev pub record_damage : File → ℕ → BadRecord → StoreFault
record_damage file at bad =
    Damaged (damage_of file (min (at + bad.at) 18446744073709551615) bad.want bad.got)

-- The first check that fails is one of the place, of the bytes, or of the record that they are.
abbrev pub FailsAs : ℕ → ℕ → Tables → List ℕ → BadRecord → Type 0
FailsAs pages at t bytes bad = (first_record_check at bytes ≡ Err bad)
    ⊎ ((first_record_check at bytes ≡ Ok tt) × IsRefusedBytes bytes bad)
    ⊎ ((r : Record) × IsLogged r × (record_bytes r ≡ bytes) × (first_record_check at bytes ≡ Ok tt)
    × ((overlay_page_check pages (length bytes) (overlay_of r) ≡ Err bad)
    ⊎ ((overlay_page_check pages (length bytes) (overlay_of r) ≡ Ok tt) × (needs r t ≡ Err bad))))

-- the tables that the records of visits leave
abbrev pub tables_seen : List Visit → Tables
tables_seen vs = tables_of (records_in (visit_bytes vs))

-- each record of a log passes, behind those before it
abbrev pub AllPass : ℕ → List Visit → Type 0
AllPass pages vs = (i : ℕ) (v : Visit) → slice_get vs i ≡ Some v
    → (r : Record) × PassesAs pages v.at (tables_seen (take i vs)) v.bytes r

-- so many pages are counted by the root that an image says
abbrev pub CountsPages : Image → ℕ → Type 0
CountsPages image pages = (r : Root) → SaysRoot (value_of RootBlock image) r → pages ≡ r.pages

-- memory was refused; or where so many pages are counted, a record is refused behind those that
-- pass
abbrev pub RefusesVisit : (ℕ → Type 0) → List Visit → Visit → ReadError → Type 0
RefusesVisit counts seen v e = (e ≡ OutOfMemory)
    ⊎ ((pages : ℕ) × counts pages × AllPass pages seen
    × ((bad : BadRecord) × FailsAs pages v.at (tables_seen seen) v.bytes bad
    × (e ≡ Store (record_damage v.file v.at bad))))

-- What a visitor of a log has seen: the records in their places, the tables that they leave, and
-- for how many pages they were checked.
pub record SeenLog : Type 0 where
  pub visits : List Visit
  pub tables : Tables
  pub pages : ℕ

-- A visitor of a log has seen these records, each of which passes where so many pages are counted.
abbrev pub HasSeen : (ℕ → Type 0) → SeenLog → List Visit → Type 0
HasSeen counts s visits = (s.visits ≡ visits) × AllPass s.pages visits × counts s.pages
