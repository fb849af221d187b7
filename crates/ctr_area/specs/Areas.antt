-- An area: what stands at each place of the pages, and not in which bytes.
use Rattle.std.specs.Prelude.{ℕ, ◌==◌, ℤ, Bool, false, ◌&&◌, List, [], Option, None, pos}
use Rattle.ctr_versions.specs.types_Row.{Row}
use Rattle.ctr_page.specs.types_Column.{Column}
use Rattle.ctr_page.specs.declared.header.Header.{Header}
use Rattle.ctr_page.specs.declared.rows.Place.{Place}

-- two places are the same
abbrev pub same_place : Place → Place → Bool
same_place a b = (a.page == b.page) && (a.slot == b.slot)

-- the place that a pointer names where it names none
abbrev pub nowhere : Place
nowhere = record { page = 0; slot = 0 }

-- An entry of the catalog has two parts. One is its title: whether it is free (0), live (1) or dead
-- (2), who made the table and who dropped it (0 for nobody), its name and its columns.
pub record Title : Type 0 where
  pub state : ℕ
  pub creator : ℕ
  pub dropper : ℕ
  pub name : List ℕ
  pub columns : List Column

-- The other is where the chains of its pages begin: of each bucket, and of its versions; 0 for no
-- page.
pub record Firsts : Type 0 where
  pub buckets : List ℕ
  pub versions : ℕ

-- a free entry has no pages
abbrev pub no_pages : Firsts
no_pages = record { buckets = []; versions = 0 }

-- a version: the transaction that wrote it, and the row, or none where it is a tombstone
abbrev pub RowVersion : Type 0
RowVersion = ℕ × Option Row

-- a slot: the head, the version before it where the slot has one, and where the next older one is
-- kept
pub record Slot : Type 0 where
  pub used : Bool
  pub key : ℤ
  pub head : RowVersion
  pub previous : Option RowVersion
  pub pointer : Place

-- an entry of the version store, and where the next older version is kept
pub record Older : Type 0 where
  pub used : Bool
  pub key : ℤ
  pub version : RowVersion
  pub pointer : Place

-- a slot that isn't used
abbrev pub free_slot : Slot
free_slot = record {
  used = false;
  key = pos 0;
  head = (0, None);
  previous = None;
  pointer = nowhere;
}

-- a version entry that isn't used
abbrev pub free_older : Older
free_older = record { used = false; key = pos 0; version = (0, None); pointer = nowhere }

-- By the number of an entry its title and first pages; by the number of a page whether it is
-- allocated, its header, and how many slots or version entries it has room for; by place a slot and
-- a version entry.
pub record Area : Type 0 where
  pub title : ℕ → Title
  pub firsts : ℕ → Firsts
  pub taken : ℕ → Bool
  pub header : ℕ → Header
  pub room : ℕ → ℕ
  pub slot : Place → Slot
  pub older : Place → Older
