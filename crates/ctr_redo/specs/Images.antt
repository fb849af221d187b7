-- What of an image folds to a state, and which images are sound.
use Rattle.std.specs.Prelude.{◌≡◌, ◌⊎◌, ◌+◌, ◌<◌, ◌≤◌, ◌*◌, ◌^◌, ℕ, true, false, List, [], ◌∷◌, ◌++◌, map, take, length, replicate, Some, None}
use Rattle.ctr_log.specs.types_File.{File}
use Rattle.ctr_log.specs.types_File.TheVariants.{Root as RootFile, LogA, LogB, Pages}
use Rattle.ctr_log.specs.home_Root.{Root}
use Rattle.ctr_pool.specs.ctr_disk.Image.{Image, content}
use Rattle.ctr_log.specs.home_Block.TheVariants.{Page, Root as RootBlock}
use Rattle.ctr_log.specs.home_Blocks.{BlockValue, zero_bytes, value_of, page_at_home}
use Rattle.ctr_log.specs.home_Roots.{IsRoot, SaysRoot, root_block}
use Rattle.ctr_log.specs.Logs.{HasLog}
use Rattle.ctr_log.specs.Fresh.{fresh_log, IsClosed}
use Rattle.ctr_meta.specs.Tables.{no_tables}
use Rattle.ctr_meta.specs.Effects.{effect, tables_of}
use Rattle.ctr_meta.specs.ctr_bytes.Fields.{field}
use Rattle.ctr_log.specs.Reading.{log_file}
use Rattle.ctr_log.specs.Kept.{log_in, kept_log, other_file, other_byte, has_newer, HoldsLog}
use Rattle.ctr_meta.specs.rec_Record.{Record}
use Rattle.ctr_meta.specs.rec_Read.{record_in}
use Rattle.ctr_pool.specs.Pages.{PageHeld}
use Rattle.ctr_redo.specs.Overlaid.{overlaid}
use Rattle.ctr_redo.specs.Fitting.{EachFits, FilesBegin, TablesGoOn}
use Rattle.ctr_redo.specs.States.{page_limit, State, Stored, state_of, steps, counting, grown, next_of, LieBelow, AreHome}

-- the records that the bytes of a log tell
abbrev pub records_in : List (List ℕ) → List Record
records_in bs = map record_in bs

-- a page of an image in which so many pages are counted, as it stands at home
abbrev pub home_in : ℕ → Image → ℕ → PageHeld
home_in counted image p = record {
  lsn = (page_at_home counted p image).lsn;
  body = (page_at_home counted p image).bytes;
}

-- what of an image folds to its state, by its root: how many pages are counted, the pages at home,
-- the records of its log, of two generations where two are kept
abbrev pub stored_in : Root → Image → Stored
stored_in root image = record {
  counted = root.pages;
  homes = home_in root.pages image;
  first = root.first;
  records = records_in (kept_log root.file root.first image);
}

-- The image says this root, its log is whole, each of its records fits behind those before it, a
-- Checkpoint begins each of its files, and that of a second one lists the tables before it; its
-- pages have their numbers and no record that the log lacks, and the file of pages has all that are
-- counted.
pub record IsSound (root : Root) (image : Image) : Type 0 where
  pub says : SaysRoot (value_of RootBlock image) root
  pub log : HoldsLog root.file root.first (kept_log root.file root.first image) image
  pub fits : EachFits root.pages no_tables (kept_log root.file root.first image)
  pub begins : FilesBegin root.file root.first image
  pub continues : TablesGoOn (kept_log root.file root.first image)
  pub below : LieBelow (next_of (stored_in root image)) (home_in root.pages image)
  pub numbered : (p : ℕ) (v : BlockValue) → p < root.pages → value_of (Page p) image ≡ Some v
      → v.number ≡ p
  pub size : 8256 * root.pages ≤ length (content Pages image)

-- the image is sound and folds to a state
pub record FoldsTo (image : Image) (s : State) : Type 0 where
  pub root : Root
  pub sound : IsSound root image
  pub state_is : state_of (stored_in root image) ≡ s

-- the image folds to a state with a prefix of these records
abbrev pub FoldsFront : State → List Record → Image → Type 0
FoldsFront s rs image = (k : ℕ) × FoldsTo image (steps (take k rs) s)

-- the image folds to a state, with the count of pages of before a growth or of behind it
abbrev pub FoldsGrown : State → Image → Type 0
FoldsGrown s image = FoldsTo image s ⊎ FoldsTo image (counting (grown s.counted) s)

-- a file of the log
abbrev pub IsLogFile : File → Type 0
IsLogFile RootFile = ⊥
IsLogFile LogA = Unit {0}
IsLogFile LogB = Unit {0}
IsLogFile Pages = ⊥

-- a value of a block as a page that is held
abbrev pub held_by : BlockValue → PageHeld
held_by v = record { lsn = v.stamp; body = v.body }

-- A value that a page of an image may have at home: it has the page's number and no record that the
-- log lacks, and the log's records make the same page of it as of what is there.
pub record MayStand (root : Root) (image : Image) (p : ℕ) (v : BlockValue) : Type 0 where
  pub counted : p < root.pages
  pub number : v.number ≡ p
  pub below : v.stamp < next_of (stored_in root image)
  pub same : overlaid p root.first (stored_in root image).records (held_by v)
      ≡ overlaid p root.first (stored_in root image).records (home_in root.pages image p)

-- More pages can be counted: the pages that are added are blank in the file, which has them, and
-- the root says the rest as before.
pub record CanCount (root more : Root) (image : Image) : Type 0 where
  pub is_root : IsRoot more
  pub file : more.file ≡ root.file
  pub first : more.first ≡ root.first
  pub grows : root.pages ≤ more.pages
  pub blank : (p : ℕ) → root.pages ≤ p → p < more.pages → value_of (Page p) image ≡ None
  pub size : 8256 * more.pages ≤ length (content Pages image)

-- ---- two generations of the log

-- the records of the generation that the root of an image names
abbrev pub named_log : Root → Image → List (List ℕ)
named_log root image = log_in (content (log_file root.file) image)

-- the records of the other file
abbrev pub other_log : Root → Image → List (List ℕ)
other_log root image = log_in (content (other_file root.file) image)

-- A second generation can begin with this record: one alone is kept, and the record fits behind it
-- and is a Checkpoint that leaves the tables as they are.
pub record MayBeginSecond (root : Root) (bytes : List ℕ) (image : Image) : Type 0 where
  pub one : has_newer root.first (content (log_file root.file) image)
      (content (other_file root.file) image)
      ≡ false
  pub fits : EachFits root.pages no_tables (kept_log root.file root.first image ++ bytes ∷ [])
  pub number : field 1 0 bytes ≡ 1
  pub keeps : effect (record_in bytes) (tables_of (stored_in root image).records)
      ≡ tables_of (stored_in root image).records

-- the root that drops the older of two generations: it names the newer one, which begins with this
-- LSN, and says the rest as before
abbrev pub newer_root : ℕ → Root → Root
newer_root start r =
    record r { stamp = r.stamp + 1; file = other_byte r.file; first = start }

-- The older of two generations can be dropped: the newer one begins with this LSN, behind the older
-- one's records, and each page's home has these.
pub record CanDropOlder (root : Root) (start : ℕ) (image : Image) : Type 0 where
  pub two : has_newer root.first (content (log_file root.file) image)
      (content (other_file root.file) image)
      ≡ true
  pub start_is : start ≡ root.first + length (named_log root image)
  pub high : start ≤ 2 ^ 63
  pub home : AreHome root.first (records_in (named_log root image)) (home_in root.pages image)

-- ---- a new database

-- its root: written once, from LSN 1 of LogA on, 64 pages counted
abbrev pub new_root : Root
new_root = record { stamp = 1; format = 1; file = 0; first = 1; pages = 64 }

-- its state: no page has anything, and no transaction was
abbrev pub new_state : State
new_state = record {
  counted = 64;
  pages = replicate page_limit (zero_bytes 4096);
  tables = no_tables;
}

-- The files of a new database: its root, a log of one checkpoint of nothing, and 64 blank pages.
pub record IsNewDatabase (image : Image) : Type 0 where
  pub root : value_of RootBlock image ≡ Some (root_block new_root)
  pub log : HasLog 1 fresh_log image.log_a
  pub other_log : IsClosed image.log_b
  pub blank : (p : ℕ) → p < 64 → value_of (Page p) image ≡ None
  pub size : 528384 ≤ length image.pages
