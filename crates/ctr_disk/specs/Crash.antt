-- What a crash may leave at one moment and over a call, and what the counts of a device do.
use Rattle.std.specs.Prelude.{◌≡◌, ◌⊎◌, ℕ, ◌-◌, ◌^◌, ◌≤◌, ◌<◌, Result, OnOk, IsErr}
use Rattle.ctr_types.specs.Faults.{CountsFault}
use Rattle.ctr_disk.specs.Image.{Image, TornImage}
use Rattle.ctr_types.specs.declared.file.File.{File}

-- a crash leaves this image and no other
abbrev pub Only : Image → (Image → Type 0) → Type 0
Only i images = (c : Image) → images c → c ≡ i

-- what may be left now might have been left before
abbrev pub Within : (Image → Type 0) → (Image → Type 0) → Type 0
Within new old = (c : Image) → new c → old c

-- each image is one of these, changed as a write of n bytes at a place may leave it
abbrev pub Tears : File → ℕ → ℕ → (Image → Type 0) → Image → Type 0
Tears file at n images c = (d : Image) × images d × TornImage file at n d c

-- Time goes on over a call: since an earlier moment a crash might have left what it might have left
-- before the call, or what it may leave now; and what it might have left before, it still might
-- have.
pub record Elapses (before now : ℕ) (past since : ℕ → Image → Type 0) (images : Image → Type 0)
    : Type 0 where
  pub later : before ≤ now
  pub nothing_else : (t : ℕ) (c : Image) → t ≤ before → since t c → past t c ⊎ images c
  pub keeps : (t : ℕ) (c : Image) → t ≤ before → past t c → since t c

-- A call whose range ends at this place: from 2 ^ 63 on it fails and the count of strays rises,
-- and below that the count stays. It never falls.
pub record HasStray {T E : Type 0} (before now place : ℕ) (result : Result T E) : Type 0 where
  pub later : before ≤ now
  pub below : place < 2 ^ 63 → now ≡ before
  pub failed : 2 ^ 63 ≤ place → IsErr result
  pub rose : 2 ^ 63 ≤ place → CountsFault before now

-- Of calls of which this is the last place: below 2 ^ 63 the count of strays stays, and at Ok.
pub record StraysOnlyPast {T E : Type 0} (before now place : ℕ) (result : Result T E) : Type 0 where
  pub below : place < 2 ^ 63 → now ≡ before
  pub fine : OnOk result (now ≡ before)

-- the moment rises at this call, or it is the last one and the call fails
pub record Ticks {T E : Type 0} (before now : ℕ) (result : Result T E) : Type 0 where
  pub rises : before < 2 ^ 64 - 1 → before < now
  pub last : 2 ^ 64 - 1 ≤ before → IsErr result
