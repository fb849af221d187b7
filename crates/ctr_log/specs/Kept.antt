-- The log of an image: the generation that its root names, and behind it the one in the other file
-- where that goes on from it.
use Rattle.std.specs.Prelude.{◌≡◌, ◌≢◌, ◌⊎◌, ◌==◌, ◌&&◌, ◌≤◌, ◌<◌, ◌+◌, ◌-◌, ◌^◌, if◌then◌else◌, ℕ, zero, suc, Bool, true, false, List, [], ◌∷◌, ◌++◌, length, take, drop, slice_index, Result, OnOk, OnErr}
use Rattle.ctr_types.specs.declared.file.Damage.{Damage}
use Rattle.ctr_types.specs.declared.file.File.{File}
use Rattle.ctr_types.specs.declared.file.File.TheVariants.{LogA, LogB}
use Rattle.ctr_home.specs.disk_Image.{Image, content, OtherFilesStay}
use Rattle.ctr_home.specs.declared.root.Root.{Root}
use Rattle.ctr_home.specs.disk_StoreFault.TheVariants.{Fault, Damaged}
use Rattle.ctr_home.specs.bytes_Fields.{field}
use Rattle.ctr_log.specs.Logs.{Batches, frames, records, unframed, HasLog, Log, GoesOn}
use Rattle.ctr_log.specs.declared.reading.ReadError.{ReadError}
use Rattle.ctr_log.specs.declared.reading.ReadError.TheVariants.{Store, OutOfMemory}
use Rattle.ctr_log.specs.Reading.{log_file, HasSome, NamesLog}
use Rattle.ctr_log.specs.Fresh.{SameRoot}

-- The records in bytes, of n open batches at most and up to the first closed gate. A place past the
-- end counts as a closed gate.
abbrev pub logged : ℕ → List ℕ → List (List ℕ)
logged zero bytes = []
logged (suc n) bytes =
    if slice_index bytes 0 == 1 then unframed (field 4 17 bytes)
    (take (field 8 1 bytes) (drop 21 bytes))
    ++ logged n (drop (21 + field 8 1 bytes) bytes) else []

-- the records of a file: there are no more batches than bytes
abbrev pub log_in : List ℕ → List (List ℕ)
log_in bytes = logged (length bytes) bytes

-- the first batch is open, and this is its first number
abbrev pub begins_at : ℕ → List ℕ → Bool
begins_at next bytes = slice_index bytes 0 == 1 && field 8 9 bytes == next

-- the records of the named file, whose first has this number, and those of the other file where
-- they go on from them
abbrev pub kept_in : ℕ → List ℕ → List ℕ → List (List ℕ)
kept_in first named other =
    if begins_at (first + length (log_in named)) other then log_in named
    ++ log_in other else log_in named

-- the file that a root's byte doesn't name
abbrev pub other_file : ℕ → File
other_file zero = LogB
other_file (suc n) = LogA

-- the log of an image whose root names this file and this first number
abbrev pub kept_log : ℕ → ℕ → Image → List (List ℕ)
kept_log file first image =
    kept_in first (content (log_file file) image) (content (other_file file) image)

-- a generation that is no more kept: its first gate isn't open, or its first number is below the
-- root's
abbrev pub IsDropped : ℕ → List ℕ → Type 0
IsDropped first bytes = (slice_index bytes 0 ≢ 1) ⊎ (field 8 9 bytes < first)

-- the frames of each batch are as many as 8 bytes can tell
abbrev pub AreShort : Batches → Type 0
AreShort [] = Unit {0}
AreShort (rs ∷ bs) = (length (frames rs) < 2 ^ 64) × AreShort bs

-- The log of an image is kept in one generation.
pub record HoldsOne (file first : ℕ) (bs : Batches) (image : Image) : Type 0 where
  pub named : HasLog first bs (content (log_file file) image)
  pub short : AreShort bs
  pub low : first + length (records bs) < 2 ^ 64
  pub dropped : IsDropped first (content (other_file file) image)

-- The log of an image is kept in two generations, one behind the other.
pub record HoldsTwo (file first : ℕ) (bs cs : Batches) (image : Image) : Type 0 where
  pub named : HasLog first bs (content (log_file file) image)
  pub short : AreShort bs
  pub newer : HasLog (first + length (records bs)) cs (content (other_file file) image)
  pub newer_short : AreShort cs
  pub low : first + length (records bs) + length (records cs) < 2 ^ 64

-- an image whose root names this file and this number holds a log of these records, whole
abbrev pub HoldsLog : ℕ → ℕ → List (List ℕ) → Image → Type 0
HoldsLog file first rs image = ((bs : Batches) × (records bs ≡ rs) × HoldsOne file first bs image)
    ⊎ ((bs : Batches) × (cs : Batches) × (records bs ++ records cs ≡ rs)
    × HoldsTwo file first bs cs image)

-- the writer goes on behind the one generation that is kept
pub record WritesOne (file first : ℕ) (log : Log) (image : Image) : Type 0 where
  pub bs : Batches
  pub file_is : log.file ≡ log_file file
  pub goes_on : GoesOn first bs log image
  pub holds : HoldsOne file first bs image

-- the writer goes on behind the newer one of two
pub record WritesTwo (file first : ℕ) (log : Log) (image : Image) : Type 0 where
  pub bs : Batches
  pub cs : Batches
  pub file_is : log.file ≡ other_file file
  pub goes_on : GoesOn (first + length (records bs)) cs log image
  pub holds : HoldsTwo file first bs cs image

-- by whether an older generation is kept
abbrev pub WritesBy : Bool → ℕ → ℕ → Log → Image → Type 0
WritesBy false file first log image = WritesOne file first log image
WritesBy true file first log image = WritesTwo file first log image

-- the writer goes on behind the log of an image
pub record WritesBehind (file first : ℕ) (log : Log) (image : Image) : Type 0 where
  pub numbered : 1 ≤ first
  pub by : WritesBy log.older file first log image

-- an image holds the log of an older one with a prefix of these records behind it; and but for one
-- file, the others are as they were
pub record KeepsPrefix (changed : File) (file first : ℕ) (rs : List (List ℕ)) (old new : Image)
    : Type 0 where
  pub others : OtherFilesStay changed old new
  pub count : ℕ
  pub holds : HoldsLog file first (kept_log file first old ++ take count rs) new

-- after a call the writer goes on behind the log of before with all these records, which stand in
-- its file, and the other files are as they were
pub record GoesOnWith (file first : ℕ) (rs : List (List ℕ)) (log : Log) (old new : Image)
    : Type 0 where
  pub others : OtherFilesStay log.file old new
  pub log_is : kept_log file first new ≡ kept_log file first old ++ rs
  pub writes : WritesBehind file first log new

-- an image holds the log of an older one with a prefix of these records behind it, and the root and
-- the pages are as they were
pub record HoldsPrefix (file first : ℕ) (rs : List (List ℕ)) (old new : Image) : Type 0 where
  pub same : SameRoot old new
  pub count : ℕ
  pub holds : HoldsLog file first (kept_log file first old ++ take count rs) new

-- after a call the writer goes on behind the log of before with all these records, and the root and
-- the pages are as they were
pub record GoesOnBehind (file first : ℕ) (rs : List (List ℕ)) (log : Log) (old new : Image)
    : Type 0 where
  pub same : SameRoot old new
  pub log_is : kept_log file first new ≡ kept_log file first old ++ rs
  pub writes : WritesBehind file first log new

-- what the start of a generation wants of the writer, for a first record of so many bytes: one
-- generation is kept, and room and a number are left
pub record CanStart (bytes : ℕ) (log : Log) : Type 0 where
  pub one : log.older ≡ false
  pub room : 8 + bytes ≤ log.room
  pub number : log.first + length log.buffered < 2 ^ 63 - 1
  pub small : bytes < 2 ^ 62

-- A log can begin a generation of so many bytes: its buffer is empty besides.
pub record CanBegin (bytes : ℕ) (log : Log) : Type 0 where
  pub empty : log.buffered ≡ []
  pub one : log.older ≡ false
  pub room : 8 + bytes ≤ log.room
  pub number : log.first < 2 ^ 63 - 1
  pub small : bytes < 2 ^ 62

-- how the start of a generation leaves the writer: the number goes on behind the records that
-- waited
pub record IsStarted (old new : Log) : Type 0 where
  pub older : new.older ≡ true
  pub start : new.start ≡ old.first + length old.buffered
  pub next : new.first ≡ old.first + length old.buffered + 1
  pub empty : new.buffered ≡ []

-- the file that a generation behind one in this file goes to
abbrev pub next_file : File → File
next_file LogA = LogB
next_file f = LogA

-- How the begin of a generation leaves the writer, whose first record has so many bytes: room isn't
-- lost. At Ok it writes in the other file, in which the closed gate stands behind that record
-- alone; else it is as it was.
pub record KeepsWriter {T E : Type 0} (bytes : ℕ) (old new : Log) (result : Result T E) : Type 0
  where
    pub room : old.room ≤ new.room
    pub file : OnOk result (new.file ≡ next_file old.file)
    pub place : OnOk result (new.place ≡ 29 + bytes)
    pub still : OnErr result (new ≡ record old { room = new.room })

-- Behind a begin of a generation the writer goes on behind its one record in the other file,
-- whatever that had, and the other files are as they were.
pub record BeginsFile (r : List ℕ) (old new : Log) (was now : Image) : Type 0 where
  pub others : OtherFilesStay (next_file old.file) was now
  pub goes_on : GoesOn old.first ((r ∷ []) ∷ []) new now

-- but for one file the others are as they were, and a generation in it that was no more kept isn't
abbrev pub StaysDropped : File → Image → Image → Type 0
StaysDropped file old new = OtherFilesStay file old new
    × ((first : ℕ) → 1 ≤ first → IsDropped first (content file old)
    → IsDropped first (content file new))

-- the root names a file of the log, and a number that its first record can have
pub record NamesKept (r : Root) : Type 0 where
  pub names : NamesLog r
  pub numbered : 1 ≤ r.first

-- a log stands in an image: the named file's, and the other file's where that begins at the next
-- number
pub record StandsLog (file first : ℕ) (image : Image) : Type 0 where
  pub bs : Batches
  pub named : HasLog first bs (content (log_file file) image)
  pub newer : begins_at (first + length (records bs)) (content (other_file file) image) ≡ true
      → HasSome (first + length (records bs)) (content (other_file file) image)

-- damage of one of the two files was found, and no log stands in the image; so it holds none
pub record LacksLog (file first : ℕ) (image : Image) (d : Damage) : Type 0 where
  pub differs : d.want ≢ d.got
  pub file_is : (d.file ≡ log_file file) ⊎ (d.file ≡ other_file file)
  pub stands : StandsLog file first image → ⊥
  pub holds : (rs : List (List ℕ)) → HoldsLog file first rs image → ⊥

-- that is told; or the disk failed, or memory was refused
abbrev pub RefusesKept : ℕ → ℕ → Image → ReadError → Type 0
RefusesKept file first image OutOfMemory = Unit {0}
RefusesKept file first image (Store Fault) = Unit {0}
RefusesKept file first image (Store (Damaged d)) = LacksLog file first image d

-- the other file begins at the number behind the named file's records
abbrev pub has_newer : ℕ → List ℕ → List ℕ → Bool
has_newer first named other = begins_at (first + length (log_in named)) other

-- the file of a writer, by whether an older generation is kept
abbrev pub writer_file : Bool → ℕ → File
writer_file false file = log_file file
writer_file true file = other_file file

-- where a writer's generation begins, by whether an older one is kept: at the root's first number,
-- or behind it
abbrev pub StartsAt : Bool → ℕ → ℕ → Type 0
StartsAt false first start = start ≡ first
StartsAt true first start = first < start

-- the log of an image was read, and a writer goes on behind its last record, which is in the other
-- file where that begins at the next number
pub record OpensKept (file first : ℕ) (image : Image) (log : Log) : Type 0 where
  pub stands : StandsLog file first image
  pub older_is : log.older
      ≡ has_newer first (content (log_file file) image) (content (other_file file) image)
  pub file_is : log.file ≡ writer_file log.older file
  pub next_is : log.first ≡ first + length (kept_log file first image)
  pub goes_on : (oldest : ℕ) × (bs : Batches) × GoesOn oldest bs log image
  pub starts : StartsAt log.older first log.start

-- the byte by which a root names the file that this one doesn't
abbrev pub other_byte : ℕ → ℕ
other_byte zero = 1
other_byte (suc n) = 0

-- Where two generations are kept and the root comes to name the newer one, by its first number, a
-- writer that was behind both goes on behind that one alone.
abbrev pub Forgets : Log → Log → Type 0
Forgets old new =
    (file first : ℕ) (image : Image) → old.older ≡ true → WritesBehind file first old image
    → WritesBehind (other_byte file) (field 8 9 (content (other_file file) image)) new image
