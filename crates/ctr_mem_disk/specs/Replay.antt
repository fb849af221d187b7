-- What a disk holds after a record of calls, the oldest first, and what a crash may leave then.
use Rattle.std.specs.Prelude.{◌≡◌, ◌⊎◌, ℕ, ◌<◌, max, List, [], ◌∷◌, ◌++◌, length, Result, MatchResult}
use Rattle.ctr_disk.specs.Image.{Image, write_of, TornImage}
use Rattle.ctr_disk.specs.Crash.{Tears}
use Rattle.ctr_mem_disk.specs.declared.record.Call.{Call}
use Rattle.ctr_mem_disk.specs.declared.record.Call.TheVariants.{Size, Read, Write, Sync}
use Rattle.ctr_mem_disk.specs.declared.record.Outcome.{Outcome}
use Rattle.ctr_mem_disk.specs.declared.record.Outcome.TheVariants.{Done, Failed, Refused}
use Rattle.ctr_mem_disk.specs.declared.record.Recorded.{Recorded}

-- what a read gives after a call: a write that was carried out shows, and nothing else
abbrev pub reads_by_call : Call → Outcome → Image → Image
reads_by_call (Write file at bytes) Done i = write_of file at bytes i
reads_by_call (Write file at bytes) Failed i = i
reads_by_call (Write file at bytes) Refused i = i
reads_by_call (Size file) outcome i = i
reads_by_call (Read file at n) outcome i = i
reads_by_call Sync outcome i = i

-- What a read sees behind a recorded call.
abbrev pub reads_by : Recorded → Image → Image
reads_by r i = reads_by_call r.call r.outcome i

-- What a crash may leave after a call, where a read gave i before it: a write that may have
-- happened tears each image, and a sync that was carried out leaves what a read gives.
abbrev pub images_by_call : Call → Outcome → Image → (Image → Type 0) → Image → Type 0
images_by_call (Write file at bytes) Done i images = Tears file at (length bytes) images
images_by_call (Write file at bytes) Failed i images = Tears file at (length bytes) images
images_by_call (Write file at bytes) Refused i images = images
images_by_call (Size file) outcome i images = images
images_by_call (Read file at n) outcome i images = images
images_by_call Sync Done i images = λ c. c ≡ i
images_by_call Sync Failed i images = images
images_by_call Sync Refused i images = images

-- Which images a crash may leave behind a recorded call.
abbrev pub images_by : Recorded → Image → (Image → Type 0) → Image → Type 0
images_by r i images = images_by_call r.call r.outcome i images

-- What a call leaves of one image d, of which a crash may leave c.
abbrev pub LeavesByCall : Call → Outcome → Image → Image → Image → Type 0
LeavesByCall (Write file at bytes) Done i d c = TornImage file at (length bytes) d c
LeavesByCall (Write file at bytes) Failed i d c = TornImage file at (length bytes) d c
LeavesByCall (Write file at bytes) Refused i d c = c ≡ d
LeavesByCall (Size file) outcome i d c = c ≡ d
LeavesByCall (Read file at n) outcome i d c = c ≡ d
LeavesByCall Sync Done i d c = c ≡ i
LeavesByCall Sync Failed i d c = c ≡ d
LeavesByCall Sync Refused i d c = c ≡ d

-- What a recorded call leaves of one image d, of which a crash may leave c.
abbrev pub LeavesBy : Recorded → Image → Image → Image → Type 0
LeavesBy r i d c = LeavesByCall r.call r.outcome i d c

-- what a read gives after the calls
abbrev pub reads_after : Image → List Recorded → Image
reads_after i [] = i
reads_after i (r ∷ calls) = reads_after (reads_by r i) calls

-- what a crash may leave after the calls
abbrev pub images_after : Image → (Image → Type 0) → List Recorded → Image → Type 0
images_after i images [] = images
images_after i images (r ∷ calls) = images_after (reads_by r i) (images_by r i images) calls

-- What a crash at some moment from t on might have left. Before a call ended at its moment, the
-- images before it were possible at the moments below that one.
abbrev pub images_since : Image → (Image → Type 0) → List Recorded → ℕ → Image → Type 0
images_since i images [] t c = images c
images_since i images (r ∷ calls) t c = ((t < r.moment) × images c)
    ⊎ images_since (reads_by r i) (images_by r i images) calls t c

-- what a crash may leave of a disk that held one image at first
abbrev pub possible_after : Image → List Recorded → Image → Type 0
possible_after first calls = images_after first (λ c. c ≡ first) calls

-- what a crash at some moment from t on might have left of it
abbrev pub possible_since : Image → List Recorded → ℕ → Image → Type 0
possible_since first calls = images_since first (λ c. c ≡ first) calls

-- the latest moment at which a call ended
abbrev pub latest : List Recorded → ℕ
latest [] = 0
latest (r ∷ calls) = max r.moment (latest calls)

-- a call was added to the record, or memory was refused and the record stays
abbrev pub IsCallRecorded : {T E : Type 0} → Result T E → Recorded → List Recorded → List Recorded
    → Type 0
IsCallRecorded kept r old new = MatchResult kept (λ _. new ≡ old ++ r ∷ []) (λ _. new ≡ old)
