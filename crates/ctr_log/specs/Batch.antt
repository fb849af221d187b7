-- What the reading of one batch of a file of the log finds.
use Rattle.std.specs.Prelude.{◌≡◌, ◌≢◌, ◌≤◌, ◌<◌, ◌-◌, ◌^◌, ℕ, List, ◌∷◌, ◌++◌, length, slice_index, Option, Some, None}
use Rattle.ctr_home.specs.bytes_Fields.{field}
use Rattle.ctr_log.specs.Logs.{frames, batch, IsBatch}
use Rattle.ctr_log.specs.Reading.{BeginsWithBatch, HasFrames, ReadsLog}
use Rattle.ctr_log.specs.declared.batches.Batch.{Batch}

-- the frames' length in a batch's head fits the bytes from its gate to the file's end, and its
-- first number is the next one
pub record HeadFits (head : List ℕ) (left next : ℕ) : Type 0 where
  pub room : field 8 1 head ≤ left - 22
  pub number : field 8 9 head ≡ next

-- the count in a batch's head is this one, and not 0
pub record CountFits (head : List ℕ) (count : ℕ) : Type 0 where
  pub same : field 4 17 head ≡ count
  pub some : 1 ≤ count

-- the bytes begin with an open batch of records from this LSN on, and this was read of it
pub record IsRead (next : ℕ) (bytes : List ℕ) (b : Batch) : Type 0 where
  pub rs : List (List ℕ)
  pub behind : List ℕ
  pub bytes_are : bytes ≡ 1 ∷ (batch next rs ++ behind)
  pub is_batch : IsBatch rs
  pub gate : 0 < length behind
  pub frames_are : b.frames.items ≡ frames rs
  pub count_is : b.count ≡ length rs

-- a batch was read; or none, where the gate isn't open
abbrev pub FindsBatch : ℕ → List ℕ → Option Batch → Type 0
FindsBatch next bytes None = slice_index bytes 0 ≢ 1
FindsBatch next bytes (Some b) = IsRead next bytes b

-- where the gate is open a batch stands behind it
abbrev pub OpensBatch : ℕ → List ℕ → Type 0
OpensBatch next bytes = slice_index bytes 0 ≡ 1 → BeginsWithBatch next bytes

-- whatever the disk tells, a batch that was read has as many frames as its count says, of less than
-- 2 ^ 61 bytes
abbrev pub IsWholeBatch : Option Batch → Type 0
IsWholeBatch None = Unit {0}
IsWholeBatch (Some b) = (length b.frames.items < 2 ^ 61) × HasFrames b.frames.items b.count

-- the log of a file was read up to its end: the closed gate behind it, and the next number
abbrev pub EndsLog : ℕ → List ℕ → ℕ → ℕ → Type 0
EndsLog first bytes place next = (rs : List (List ℕ)) × ReadsLog first bytes rs place next
