-- What a record does to an area: one place of it is changed.
use Rattle.std.specs.Prelude.{◌≡◌, ◌≢◌, ℕ, ◌+◌, ◌*◌, ◌/◌, ◌%◌, ◌==◌, ◌<◌, ◌≤◌, Bool, List, [], ◌∷◌, length, drop, set, replicate, if◌then◌else◌}
use Rattle.ctr_page.specs.types_Column.{Column}
use Rattle.ctr_page.specs.ctr_value.Payload.{width}
use Rattle.ctr_page.specs.declared.header.Header.{Header}
use Rattle.ctr_page.specs.declared.rows.Place.{Place}
use Rattle.ctr_page.specs.declared.table.TheConstants.{PAGE_SIZE, ENTRY_SIZE}
use Rattle.ctr_page.specs.Places.{room_for, start_of}
use Rattle.ctr_page.specs.Making.{header_bytes}
use Rattle.ctr_page.specs.Reading.{put_over}
use Rattle.ctr_area.specs.Areas.{same_place, Title, Firsts, Slot, Older, free_slot, free_older, Area}
use Rattle.ctr_area.specs.Reading.{has_bit, header_on, size_of_kind, size_on}

-- Row, Revert, and Trim of a slot
abbrev pub with_slot : Place → Slot → Area → Area
with_slot at slot area =
    record area { slot = λ q. if same_place q at then slot else area.slot q }

-- Keep, and Trim of a version entry
abbrev pub with_older : Place → Older → Area → Area
with_older at older area =
    record area { older = λ q. if same_place q at then older else area.older q }

-- Create, Uncreate, Drop, Undrop, and Trim of an entry of the catalog
abbrev pub with_title : ℕ → Title → Area → Area
with_title e title area = record area { title = λ f. if f == e then title else area.title f }

-- Link and Unlink; and Create, by which a free entry gets empty buckets
abbrev pub with_firsts : ℕ → Firsts → Area → Area
with_firsts e firsts area = record area { firsts = λ f. if f == e then firsts else area.firsts f }

-- the first pages, where that of a bucket, by its number, is this one
abbrev pub with_bucket : ℕ → ℕ → Firsts → Firsts
with_bucket bucket p firsts = record firsts { buckets = set firsts.buckets bucket p }

-- An area in which one page is taken, as by an Alloc, or free, as by a Free.
abbrev pub with_taken : ℕ → Bool → Area → Area
with_taken p taken area = record area { taken = λ q. if q == p then taken else area.taken q }

-- how many slots or version entries of its table a page with this header has
abbrev pub room_by : Area → Header → ℕ
room_by area h =
    room_for (size_of_kind (h.kind == 1) (width (drop 1 (area.title h.entry).columns)))

-- Format: a page has a header, and neither a slot nor a version entry on it is used
abbrev pub with_blank : ℕ → Header → Area → Area
with_blank p h area = record area {
  header = λ q. if q == p then h else area.header q;
  room = λ q. if q == p then room_by area h else area.room q;
  slot = λ at. if at.page == p then free_slot else area.slot at;
  older = λ at. if at.page == p then free_older else area.older at;
}

-- the title of a new table
abbrev pub new_title : ℕ → List ℕ → List Column → Title
new_title creator name columns =
    record { state = 1; creator = creator; dropper = 0; name = name; columns = columns }

-- its chains: eight buckets and versions, without a page
abbrev pub empty_chains : Firsts
empty_chains = record {
  buckets = 0 ∷ 0 ∷ 0 ∷ 0 ∷ 0 ∷ 0 ∷ 0 ∷ 0 ∷ [];
  versions = 0;
}

-- Create: an entry of the catalog gets a title, with its own columns, and first pages. Other
-- entries stay, and so does all that stands on pages of other entries. Pages that name this one in
-- their headers are read by its new columns.
pub record ChangesEntry (e : ℕ) (title : Title) (chains : Firsts) (old new : Area) : Type 0 where
  pub titles : (f : ℕ) → new.title f ≡ (with_title e title old).title f
  pub firsts : (f : ℕ) → new.firsts f ≡ (with_firsts e chains old).firsts f
  pub taken : (p : ℕ) → new.taken p ≡ old.taken p
  pub headers : (p : ℕ) → new.header p ≡ old.header p
  pub rooms : (p : ℕ) → (old.header p).entry ≢ e → new.room p ≡ old.room p
  pub slots : (at : Place) → (old.header at.page).entry ≢ e → new.slot at ≡ old.slot at
  pub older : (at : Place) → (old.header at.page).entry ≢ e → new.older at ≡ old.older at

-- ---- in the bytes

-- Of the eight bits of a byte one is as wanted, and the others are as before.
abbrev pub IsBitSet : ℕ → Bool → ℕ → ℕ → Type 0
IsBitSet k taken old new =
    (j : ℕ) → j < 8 → has_bit j new ≡ (if j == k then taken else has_bit j old)

-- the pages, where one has these bytes
abbrev pub with_page : ℕ → List ℕ → (ℕ → List ℕ) → ℕ → List ℕ
with_page p bytes pages q = if q == p then bytes else pages q

-- the pages, where page 0 has this byte in which a page has its bit
abbrev pub with_byte_of : ℕ → ℕ → (ℕ → List ℕ) → ℕ → List ℕ
with_byte_of p byte pages = with_page 0 (put_over (p / 8) (byte ∷ []) (pages 0)) pages

-- the pages, where one is cleared and has this header
abbrev pub with_header : ℕ → Header → (ℕ → List ℕ) → ℕ → List ℕ
with_header p h pages = with_page p (put_over 0 (header_bytes h) (replicate PAGE_SIZE 0)) pages

-- the pages, where these bytes are put over what stands at a place
abbrev pub with_bytes_at : Place → List ℕ → (ℕ → List ℕ) → ℕ → List ℕ
with_bytes_at at bytes pages =
    with_page at.page
    (put_over (start_of (size_on pages at.page) at.slot) bytes (pages at.page)) pages

-- the pages, where these bytes are put over an entry of the catalog
abbrev pub with_entry : ℕ → List ℕ → (ℕ → List ℕ) → ℕ → List ℕ
with_entry e bytes pages =
    with_page (1 + e / 16)
    (put_over (ENTRY_SIZE * (e % 16)) bytes (pages (1 + e / 16))) pages

-- the pages, where these bytes are put over those of an entry from a place in it on
abbrev pub with_in_entry : ℕ → ℕ → List ℕ → (ℕ → List ℕ) → ℕ → List ℕ
with_in_entry e at bytes pages =
    with_page (1 + e / 16)
    (put_over (ENTRY_SIZE * (e % 16) + at) bytes (pages (1 + e / 16))) pages

-- a place on a page behind those of the catalog, whose header says what stands there
pub record IsPlaceOf (kind : ℕ) (pages : ℕ → List ℕ) (at : Place) : Type 0 where
  pub behind_catalog : 3 ≤ at.page
  pub of_kind : (header_on pages at.page).kind ≡ kind
  pub inside : start_of (size_on pages at.page) at.slot + size_on pages at.page
      ≤ length (pages at.page)
