-- What a disk in memory shows, and what each of its calls does besides what each disk's does.
use Rattle.std.specs.Prelude.{◌≡◌, ◌==◌, ◌&&◌, ◌||◌, ◌⊎◌, ◌↔◌, ℕ, ◌+◌, ◌-◌, ◌^◌, nat_le, Bool, true, false, if◌then◌else◌, List, [], ◌∷◌, ◌++◌, length, Result, IsOk, IsErr}
use Rattle.std.specs.List.{list_any}
use Rattle.ctr_disk.specs.Image.{Image}
use Rattle.ctr_types.specs.Faults.{raised}
use Rattle.ctr_mem_disk.specs.Counting.{outcome_of}
use Rattle.ctr_mem_disk.specs.Replay.{possible_after, possible_since}
use Rattle.ctr_mem_disk.specs.declared.record.Call.{Call}
use Rattle.ctr_mem_disk.specs.declared.record.Call.TheVariants.{Size, Read, Write, Sync}
use Rattle.ctr_mem_disk.specs.declared.record.Outcome.TheVariants.{Done}
use Rattle.ctr_mem_disk.specs.declared.record.Recorded.{Recorded}
use Rattle.ctr_mem_disk.specs.declared.memory.MemDisk.{MemDisk}

-- The image that a read of the disk in memory sees.
abbrev pub image_read : MemDisk → Image
image_read d = d.present

-- what it held at first
abbrev pub first_image : MemDisk → Image
first_image d = d.first

-- the calls, the oldest first
abbrev pub recorded_calls : MemDisk → List Recorded
recorded_calls d = d.calls.items

-- the numbers of the calls that are to fail
abbrev pub failing_calls : MemDisk → List ℕ
failing_calls d = d.fails

-- how many calls it has counted
abbrev pub counted_calls : MemDisk → ℕ
counted_calls d = d.counts.calls

-- how many calls failed since memory was refused
abbrev pub starved_calls : MemDisk → ℕ
starved_calls d = d.counts.starved

-- The moment at which the disk in memory is.
abbrev pub moment_at : MemDisk → ℕ
moment_at d = d.counts.moment

-- how many calls have failed
abbrev pub counted_faults : MemDisk → ℕ
counted_faults d = d.counts.faults

-- how many calls went past the last place
abbrev pub counted_strays : MemDisk → ℕ
counted_strays d = d.counts.strays

-- what a crash at this moment may leave
abbrev pub images_of : MemDisk → Image → Type 0
images_of d = possible_after (first_image d) (recorded_calls d)

-- what a crash at some moment from that one on might have left
abbrev pub since_of : MemDisk → ℕ → Image → Type 0
since_of d = possible_since (first_image d) (recorded_calls d)

-- a new disk holds this image, at this moment, and has counted nothing
pub record StartsWith (image : Image) (fails : List ℕ) (moment : ℕ) (d : MemDisk) : Type 0 where
  pub reads : image_read d ≡ image
  pub first : first_image d ≡ image
  pub calls : recorded_calls d ≡ []
  pub fails_at : failing_calls d ≡ fails
  pub counted : counted_calls d ≡ 0
  pub moment_is : moment_at d ≡ moment
  pub faults : counted_faults d ≡ 0
  pub strays : counted_strays d ≡ 0
  pub starved : starved_calls d ≡ 0

-- a disk is the same but for its counts of faults and strays
pub record RecountedAs (faults strays : ℕ) (old new : MemDisk) : Type 0 where
  pub reads : image_read new ≡ image_read old
  pub first : first_image new ≡ first_image old
  pub calls : recorded_calls new ≡ recorded_calls old
  pub fails_at : failing_calls new ≡ failing_calls old
  pub counted : counted_calls new ≡ counted_calls old
  pub moment_is : moment_at new ≡ moment_at old
  pub faults_are : counted_faults new ≡ faults
  pub strays_are : counted_strays new ≡ strays
  pub starved : starved_calls new ≡ starved_calls old

-- a call whose range ends past the last place
abbrev pub strays_by : Call → Bool
strays_by (Size file) = false
strays_by (Read file at n) = nat_le (2 ^ 63) (at + n)
strays_by (Write file at bytes) = nat_le (2 ^ 63) (at + length bytes)
strays_by Sync = false

-- a call at which the moment rises
abbrev pub ticks_by : Call → Bool
ticks_by (Size file) = false
ticks_by (Read file at n) = false
ticks_by (Write file at bytes) = true
ticks_by Sync = true

-- The call as it stands in the record where memory is not refused: it is refused past the last
-- place and at the last moment, and else fails where its number is in the list.
abbrev pub recorded_as : Call → MemDisk → Recorded
recorded_as call d = record {
  call = call;
  outcome =
      outcome_of (strays_by call || (ticks_by call && nat_le (2 ^ 64 - 1) (moment_at d)))
      (list_any (λ n. n == raised (counted_calls d)) (failing_calls d));
  moment = if ticks_by call then raised (moment_at d) else moment_at d;
}

-- either the call is recorded, and answered Ok exactly where it was carried out
abbrev pub IsCallAnswered : {T E : Type 0} → Recorded → List Recorded → List Recorded → ℕ → ℕ
    → Result T E → Type 0
IsCallAnswered entry old new starved_old starved_new result = (new ≡ old ++ entry ∷ [])
    × (starved_new ≡ starved_old) × (IsOk result ↔ (entry.outcome ≡ Done))

-- A call was refused for want of memory: it is no recorded call, and that is counted.
abbrev pub IsStarved : {T E : Type 0} → List Recorded → List Recorded → ℕ → ℕ → Result T E → Type 0
IsStarved old new starved_old starved_new result = (new ≡ old) × (starved_new ≡ raised starved_old)
    × IsErr result

-- what a call does: it fails only at the bounds, where it is listed, and where memory is refused
pub record DoesCall {T E : Type 0} (call : Call) (old new : MemDisk) (result : Result T E)
    : Type 0 where
  pub counted : counted_calls new ≡ raised (counted_calls old)
  pub first : first_image new ≡ first_image old
  pub listed : failing_calls new ≡ failing_calls old
  pub goes : IsCallAnswered (recorded_as call old) (recorded_calls old) (recorded_calls new)
      (starved_calls old) (starved_calls new) result
      ⊎ IsStarved (recorded_calls old) (recorded_calls new) (starved_calls old)
      (starved_calls new) result
