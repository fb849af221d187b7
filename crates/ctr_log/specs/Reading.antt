-- What reading a file of the log finds.
use Rattle.std.specs.Prelude.{◌≡◌, ℕ, zero, suc, Bool, ◌+◌, ◌^◌, ◌≤◌, ◌<◌, List, [], ◌∷◌, ◌++◌, length}
use Rattle.ctr_types.specs.declared.file.File.{File}
use Rattle.ctr_types.specs.declared.file.File.TheVariants.{LogA, LogB}
use Rattle.ctr_home.specs.declared.root.Root.{Root}
use Rattle.ctr_home.specs.disk_StoreFault.TheVariants.{Fault, Damaged}
use Rattle.ctr_log.specs.declared.reading.ReadError.{ReadError}
use Rattle.ctr_log.specs.declared.reading.ReadError.TheVariants.{Store, OutOfMemory}
use Rattle.ctr_log.specs.Damage.{IsDamageOf, Differs}
use Rattle.ctr_log.specs.Logs.{Batches, frame, frames, batch, batches, records, IsBatch, HasLog, Log}

-- What was to be read isn't there, and damage of the file is told; or the disk failed, or memory
-- was refused.
abbrev pub RefusesOrFails : File → Type 0 → ReadError → Type 0
RefusesOrFails file P OutOfMemory = Unit {0}
RefusesOrFails file P (Store Fault) = Unit {0}
RefusesOrFails file P (Store (Damaged d)) = IsDamageOf file (Damaged d) × (P → ⊥)

-- where it is damage, what is wanted differs from what is there
abbrev pub ReadDiffers : ReadError → Type 0
ReadDiffers OutOfMemory = Unit {0}
ReadDiffers (Store e) = Differs e

-- the bytes begin with a frame
abbrev pub BeginsWithFrame : List ℕ → Type 0
BeginsWithFrame bytes = (r : List ℕ) × (more : List ℕ) × (bytes ≡ frame r ++ more)

-- A list of bytes is made of whole frames.
abbrev pub AreFrames : List ℕ → Type 0
AreFrames bytes = (rs : List (List ℕ)) × (bytes ≡ frames rs)

-- the bytes are frames of so many records
abbrev pub HasFrames : List ℕ → ℕ → Type 0
HasFrames bytes n = (rs : List (List ℕ)) × (bytes ≡ frames rs) × (n ≡ length rs)

-- the bytes are frames of records, which were added to a list; n is their count
pub record ReadsFrames (bytes : List ℕ) (old new : List (List ℕ)) (n : ℕ) : Type 0 where
  pub rs : List (List ℕ)
  pub bytes_are : bytes ≡ frames rs
  pub added : new ≡ old ++ rs
  pub count : n ≡ length rs

-- the bytes begin with an open batch of records from this LSN on, behind which a gate stands
pub record BeginsWithBatch (next : ℕ) (bytes : List ℕ) : Type 0 where
  pub rs : List (List ℕ)
  pub behind : List ℕ
  pub bytes_are : bytes ≡ 1 ∷ (batch next rs ++ behind)
  pub is_batch : IsBatch rs
  pub gate : 0 < length behind

-- such a batch was read: its records were added to a list, n is their count, and this stands
-- behind it
pub record ReadsBatch (next : ℕ) (bytes : List ℕ) (old new : List (List ℕ)) (behind : List ℕ)
    (n : ℕ) : Type 0 where
  pub rs : List (List ℕ)
  pub bytes_are : bytes ≡ 1 ∷ (batch next rs ++ behind)
  pub is_batch : IsBatch rs
  pub gate : 0 < length behind
  pub added : new ≡ old ++ rs
  pub count : n ≡ length rs

-- a log was read: its records, the place of the closed gate behind it, and the next LSN
pub record ReadsLog (first : ℕ) (bytes : List ℕ) (rs : List (List ℕ)) (place next : ℕ)
    : Type 0 where
  pub bs : Batches
  pub log_is : HasLog first bs bytes
  pub records_are : rs ≡ records bs
  pub place_is : place ≡ length (batches first bs)
  pub next_is : next ≡ first + length (records bs)

-- the place behind a log that was read is one of a file, whose records are 2^60 at most
pub record FitsFile (first place next : ℕ) : Type 0 where
  pub place_low : place < 2 ^ 63
  pub few : next ≤ first + 2 ^ 60

-- some log stands in the bytes
abbrev pub HasSome : ℕ → List ℕ → Type 0
HasSome first bytes = (bs : Batches) × HasLog first bs bytes

-- the file that a root's byte names
abbrev pub log_file : ℕ → File
log_file zero = LogA
log_file (suc n) = LogB

-- a writer with nothing to flush, at this place, in a generation that begins with this LSN
pub record IsEmptyAt (file : File) (older : Bool) (start place next : ℕ) (log : Log) : Type 0 where
  pub file_is : log.file ≡ file
  pub older_is : log.older ≡ older
  pub start_is : log.start ≡ start
  pub place_is : log.place ≡ place
  pub next_is : log.first ≡ next
  pub none : log.buffered ≡ []

-- the root names a file that is one of the log, and a number that its first record can have
pub record NamesLog (r : Root) : Type 0 where
  pub file : r.file ≤ 1
  pub first : r.first ≤ 2 ^ 63
