-- A file of the log: batches of records, each behind a gate, up to the first closed gate.
use Rattle.std.specs.Prelude.{◌≡◌, ◌≢◌, ◌⊎◌, ℕ, zero, suc, Bool, ◌+◌, ◌^◌, ◌<◌, List, [], ◌∷◌, ◌++◌, length, take, drop, Result, Err, OnOk, OnErr, ◌≤◌}
use Rattle.ctr_types.specs.declared.file.File.{File}
use Rattle.ctr_types.specs.Faults.{HasFault}
use Rattle.ctr_home.specs.disk_Disk.{Ghosts}
use Rattle.ctr_home.specs.disk_StoreFault.{StoreFault}
use Rattle.ctr_home.specs.disk_StoreFault.TheVariants.{Fault}
use Rattle.ctr_home.specs.disk_Crash.{StraysOnlyPast}
use Rattle.ctr_home.specs.disk_Image.{Image, content, OtherFilesStay}
use Rattle.ctr_home.specs.bytes_Fields.{spelled, field}

-- a record in a batch: its length, and its bytes
abbrev pub frame : List ℕ → List ℕ
frame bytes = spelled 8 (length bytes) ++ bytes

-- the frames of records, one behind another
abbrev pub frames : List (List ℕ) → List ℕ
frames [] = []
frames (r ∷ rs) = frame r ++ frames rs

-- frames behind their length, the first LSN and the count of the records
abbrev pub headed : ℕ → ℕ → List ℕ → List ℕ
headed first count bytes = spelled 8 (length bytes) ++ spelled 8 first ++ spelled 4 count ++ bytes

-- Frames with their length, first LSN and count in front, and a closed gate behind them.
abbrev pub sealed : ℕ → ℕ → List ℕ → List ℕ
sealed first count bytes = headed first count bytes ++ 0 ∷ []

-- a batch behind its gate: the length of its frames, its first LSN, the count of its records, the
-- frames
abbrev pub batch : ℕ → List (List ℕ) → List ℕ
batch first rs = headed first (length rs) (frames rs)

-- the records of each batch of a log
abbrev pub Batches : Type 0
Batches = List (List (List ℕ))

-- open batches one behind another, whose records are numbered from this LSN on
abbrev pub batches : ℕ → Batches → List ℕ
batches first [] = []
batches first (rs ∷ bs) = 1 ∷ (batch first rs ++ batches (first + length rs) bs)

-- the records of batches, in order
abbrev pub records : Batches → List (List ℕ)
records [] = []
records (rs ∷ bs) = rs ++ records bs

-- a batch has a record, and a count of 4 bytes
abbrev pub IsBatch : List (List ℕ) → Type 0
IsBatch rs = (0 < length rs) × (length rs < 2 ^ 32)

-- each of them is one
abbrev pub AreBatches : Batches → Type 0
AreBatches [] = Unit {0}
AreBatches (rs ∷ bs) = IsBatch rs × AreBatches bs

-- A file has these batches from its start, and behind them a closed gate that lies in the file.
-- What stands behind it is no part of the log.
pub record HasBatches (first : ℕ) (bs : Batches) (bytes : List ℕ) : Type 0 where
  pub gate : ℕ
  pub rest : List ℕ
  pub bytes_are : bytes ≡ batches first bs ++ gate ∷ rest
  pub closed : gate ≢ 1
  pub each : AreBatches bs

-- the file's log: these batches, one at least
pub record HasLog (first : ℕ) (bs : Batches) (bytes : List ℕ) : Type 0 where
  pub some : 0 < length bs
  pub batches_are : HasBatches first bs bytes

-- the file's log has these records
abbrev pub HasRecords : ℕ → List (List ℕ) → List ℕ → Type 0
HasRecords first rs bytes = (bs : Batches) × (records bs ≡ rs) × HasLog first bs bytes

-- The records of n frames that stand one behind another.
abbrev pub unframed : ℕ → List ℕ → List (List ℕ)
unframed zero bytes = []
unframed (suc n) bytes =
    take (field 8 0 bytes) (drop 8 bytes) ∷ unframed n (drop (8 + field 8 0 bytes) bytes)

-- What the writer of a log knows: its file, whether the other file has an older generation that is
-- kept, the LSN of the first record of its own, the place of the closed gate behind the log, the
-- LSN of the first record that isn't flushed, the records that aren't, and how many bytes of frames
-- more fit.
pub record Log : Type 0 where
  pub file : File
  pub older : Bool
  pub start : ℕ
  pub place : ℕ
  pub first : ℕ
  pub buffered : List (List ℕ)
  pub room : ℕ

-- the writer goes on behind the last batch of its file's log, whose first record has this LSN
pub record GoesOn (first : ℕ) (bs : Batches) (log : Log) (image : Image) : Type 0 where
  pub log_is : HasLog first bs (content log.file image)
  pub start : log.start ≡ first
  pub place : log.place ≡ length (batches first bs)
  pub first_is : log.first ≡ first + length (records bs)

-- how many bytes of frames a writer's buffer takes in all, with those that wait
abbrev pub buffer_size : Log → ℕ
buffer_size log = log.room + length (frames log.buffered)

-- Behind a call the records wait that waited before it, or none does.
abbrev pub WaitsOrNone : Log → Log → Type 0
WaitsOrNone old new = (new.buffered ≡ old.buffered) ⊎ (new.buffered ≡ [])

-- the place in its file of the next record that a writer is given: behind the gate, a batch's first
-- fields, the frames that wait, and the 8 bytes of its own length
abbrev pub next_place : Log → ℕ
next_place log = log.place + 29 + length (frames log.buffered)

-- where the closed gate behind a log will stand once these records are flushed behind this place
abbrev pub end_behind : ℕ → List (List ℕ) → ℕ
end_behind place [] = place
end_behind place (r ∷ rs) = place + 21 + length (frames (r ∷ rs))

-- where the closed gate behind a writer's log will stand once all that waits is flushed
abbrev pub log_end : Log → ℕ
log_end log = end_behind log.place log.buffered

-- the batches with one of these records behind them, where there are any
abbrev pub with_batch : Batches → List (List ℕ) → Batches
with_batch bs [] = bs
with_batch bs (r ∷ rs) = bs ++ (r ∷ rs) ∷ []

-- the file has these records and a prefix of those, and the other files are as they were
abbrev pub HasPrefix : File → ℕ → List (List ℕ) → List (List ℕ) → Image → Image → Type 0
HasPrefix file first flushed more old new = OtherFilesStay file old new
    × ((k : ℕ) × HasRecords first (flushed ++ take k more) (content file new))

-- While the records that wait are flushed behind this log a crash leaves the log with a prefix of
-- them, and the place of the log's closed gate lies in the file.
pub record IsFlushing (first : ℕ) (bs : Batches) (log : Log) (old new : Image) : Type 0 where
  pub records_are : HasPrefix log.file first (records bs) log.buffered old new
  pub long : log.place < length (content log.file new)

-- How a flush leaves the writer: its generation, the number of its next record and the size of its
-- buffer stay, so what waited gives its room back. The closed gate stands behind all once nothing
-- waits. At Ok nothing does, and the numbers go on behind the records that waited; else they wait
-- still.
pub record IsEmptied {T E : Type 0} (old new : Log) (result : Result T E) : Type 0 where
  pub file : new.file ≡ old.file
  pub older : new.older ≡ old.older
  pub start : new.start ≡ old.start
  pub none : OnOk result (new.buffered ≡ [])
  pub next : OnOk result (new.first ≡ old.first + length old.buffered)
  pub room : old.room ≤ new.room
  pub size : buffer_size old ≤ buffer_size new
  pub waits : WaitsOrNone old new
  pub still : OnErr result (new.buffered ≡ old.buffered)
  pub gate : old.place ≤ new.place
  pub ends : log_end new ≡ log_end old
  pub number : new.first + length new.buffered ≡ old.first + length old.buffered
  pub later : old.first ≤ new.first

-- What a flush counts at a place of its file: the clock doesn't go back, the one error is a fault
-- of the disk, which is counted, and only a batch at the last places of a file counts as a stray.
pub record CountsFlush {D T : Type 0} (g : Ghosts D) (place : ℕ) (old new : D)
    (result : Result T StoreFault)
    : Type 0 where
  pub refused : OnErr result (result ≡ Err Fault)
  pub later : g.moment_of old ≤ g.moment_of new
  pub faults : HasFault Fault (g.faults_of old) (g.faults_of new) result
  pub stray : StraysOnlyPast (g.strays_of old) (g.strays_of new) (place + 2 ^ 61) result

-- a batch that is to stand at the closed gate behind the log, with a closed gate behind it
pub record Extends (first : ℕ) (bs : Batches) (rs : List (List ℕ)) (place : ℕ) (body bytes : List ℕ)
    : Type 0 where
  pub log_is : HasBatches first bs bytes
  pub place_is : place ≡ length (batches first bs)
  pub body_is : body ≡ batch (first + length (records bs)) rs ++ 0 ∷ []
  pub is_batch : IsBatch rs

-- the file has its old batches or one more, and the other files are as they were
abbrev pub IsBeforeOrAfter : File → ℕ → Batches → List (List ℕ) → Image → Image → Type 0
IsBeforeOrAfter file first bs rs old new = OtherFilesStay file old new
    × (HasBatches first bs (content file new) ⊎ HasBatches first (bs ++ rs ∷ []) (content file new))

-- the file has a batch more, and the other files are as they were
abbrev pub IsAfter : File → ℕ → Batches → List (List ℕ) → Image → Image → Type 0
IsAfter file first bs rs old new = OtherFilesStay file old new
    × HasBatches first (bs ++ rs ∷ []) (content file new)
