-- Which records make a log: each fits behind those before it, and a Checkpoint begins each file of
-- it.
use Rattle.std.specs.Prelude.{◌≡◌, ◌≢◌, ◌<◌, ℕ, true, List, [], ◌∷◌, ◌++◌, Option, Some, None, Ok}
use Rattle.ctr_log.specs.types_File.{File}
use Rattle.ctr_log.specs.home_Root.{Root}
use Rattle.ctr_pool.specs.ctr_disk.Image.{Image, content}
use Rattle.ctr_meta.specs.ctr_bytes.Fields.{field}
use Rattle.ctr_log.specs.Reading.{log_file}
use Rattle.ctr_log.specs.Kept.{log_in, kept_log, other_file, has_newer, writer_file}
use Rattle.ctr_pool.specs.rec_Overlay.{Overlay}
use Rattle.ctr_meta.specs.rec_Spelling.{record_bytes}
use Rattle.ctr_meta.specs.rec_Read.{record_in}
use Rattle.ctr_meta.specs.Tables.{Tables, no_tables}
use Rattle.ctr_meta.specs.Effects.{effect}
use Rattle.ctr_meta.specs.Needs.{needs}
use Rattle.ctr_meta.specs.Kept.{IsLogged}
use Rattle.ctr_redo.specs.Overlaid.{overlay_of}

-- an overlay is of a counted page
abbrev pub LiesInside : ℕ → Option Overlay → Type 0
LiesInside counted None = Unit {0}
LiesInside counted (Some o) = o.page < counted

-- Bytes are a record that fits behind records that left these tables, where so many pages are
-- counted.
pub record FitsBehind (counted : ℕ) (t : Tables) (bytes : List ℕ) : Type 0 where
  pub logged : IsLogged (record_in bytes)
  pub bytes_are : record_bytes (record_in bytes) ≡ bytes
  pub inside : LiesInside counted (overlay_of (record_in bytes))
  pub needed : needs (record_in bytes) t ≡ Ok tt

-- each of them fits behind those before it, the first behind records that left these tables
abbrev pub EachFits : ℕ → Tables → List (List ℕ) → Type 0
EachFits counted t [] = Unit {0}
EachFits counted t (b ∷ bs) = FitsBehind counted t b × EachFits counted (effect (record_in b) t) bs

-- none of them has the number of a Checkpoint
abbrev pub HaveNoCheckpoint : List (List ℕ) → Type 0
HaveNoCheckpoint [] = Unit {0}
HaveNoCheckpoint (b ∷ bs) = (field 1 0 b ≢ 1) × HaveNoCheckpoint bs

-- each Checkpoint of them lists the tables that the records before it left, from these on
abbrev pub CheckpointsKeep : Tables → List (List ℕ) → Type 0
CheckpointsKeep t [] = Unit {0}
CheckpointsKeep t (b ∷ bs) = (field 1 0 b ≡ 1 → effect (record_in b) t ≡ t)
    × CheckpointsKeep (effect (record_in b) t) bs

-- So it is with a Checkpoint behind the first record: the tables go on over it. It begins the newer
-- of two generations.
abbrev pub TablesGoOn : List (List ℕ) → Type 0
TablesGoOn [] = Unit {0}
TablesGoOn (b ∷ bs) = CheckpointsKeep (effect (record_in b) no_tables) bs

-- the first of a file's records has that number, and no other
abbrev pub BeginsOnce : List (List ℕ) → Type 0
BeginsOnce [] = ⊥
BeginsOnce (b ∷ bs) = (field 1 0 b ≡ 1) × HaveNoCheckpoint bs

-- so begins each file of the log of an image, whose root names this file and this first number
pub record FilesBegin (file first : ℕ) (image : Image) : Type 0 where
  pub named : BeginsOnce (log_in (content (log_file file) image))
  pub newer :
      has_newer first (content (log_file file) image) (content (other_file file) image) ≡ true
      → BeginsOnce (log_in (content (other_file file) image))

-- the file that the last record of the log is in
abbrev pub last_file : ℕ → ℕ → Image → File
last_file file first image =
    writer_file (has_newer first (content (log_file file) image)
    (content (other_file file) image)) file

-- Records may be flushed to a file: the log's last one. They fit behind the log, and none is a
-- Checkpoint.
pub record MayFollow (root : Root) (file : File) (more : List (List ℕ)) (image : Image) : Type 0
  where
    pub file_is : file ≡ last_file root.file root.first image
    pub fits : EachFits root.pages no_tables (kept_log root.file root.first image ++ more)
    pub changes : HaveNoCheckpoint more
