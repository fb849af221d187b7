-- What a caller says of a disk over its calls. The ghosts of the disk come in one bundle.
use Rattle.std.specs.Prelude.{◌≡◌, ◌⊎◌, ℕ, ◌≤◌, ◌<◌, IsTrue, Result}
use Rattle.ctr_disk.specs.Image.{Image}
use Rattle.ctr_types.specs.Faults.{HasCause, HasFault}
use Rattle.ctr_disk.specs.Crash.{Only, Within}
use Rattle.ctr_disk.specs.declared.disk.Disk.{Ghosts}

-- what holds of a disk that tells what it holds
abbrev pub WhereTold : {D : Type 0} → Ghosts D → Type 0 → Type 0
WhereTold g P = IsTrue g.tells → P

-- A crash at any moment from the old state to the new one, inside a call too, leaves an image with
-- P.
pub record LeavesOnly {D : Type 0} (g : Ghosts D) (old new : D) (P : Image → Type 0) : Type 0 where
  pub later : g.moment_of old ≤ g.moment_of new
  pub each : (c : Image) → g.since new (g.moment_of old) c → P c
  -- for a run that began earlier
  pub before : (t : ℕ) (c : Image) → t ≤ g.moment_of old → g.since new t c → g.since old t c ⊎ P c

-- A crash leaves what a read gives, and nothing else.
abbrev pub IsDurable : {D : Type 0} → Ghosts D → D → Type 0
IsDurable g disk = Only (g.reads disk) (g.images disk)

-- The disk tells what it holds, and a crash leaves that and nothing else.
pub record IsSettled {D : Type 0} (g : Ghosts D) (disk : D) : Type 0 where
  pub told : IsTrue g.tells
  pub only : IsDurable g disk

-- A read gives what it gave, and a crash at any moment leaves what it might have left before.
pub record OnlyReads {D : Type 0} (g : Ghosts D) (old new : D) : Type 0 where
  pub same : g.reads new ≡ g.reads old
  pub now : Within (g.images new) (g.images old)
  pub any_moment : LeavesOnly g old new (g.images old)

-- Time went on over a call, after which a crash leaves what a read gives; and so it does at each
-- moment from the call's end on, as far as that is past.
pub record IsDurableFrom {D : Type 0} (g : Ghosts D) (old new : D) : Type 0 where
  pub rises : g.moment_of old < g.moment_of new
  pub now : IsDurable g new
  pub since : (t : ℕ) → g.moment_of new ≤ t → Only (g.reads new) (g.since new t)

-- What a call counts, of which each error says that the disk failed: the clock doesn't go back, a
-- fault is counted at an error and not at Ok, and no call went past the last place.
pub record Counts {D T E : Type 0} (g : Ghosts D) (old new : D) (result : Result T E) : Type 0 where
  pub later : g.moment_of old ≤ g.moment_of new
  pub faults : HasCause (g.faults_of old) (g.faults_of new) result
  pub stray : g.strays_of new ≡ g.strays_of old

-- A call that has other errors too counts as the device says: the error given here alone says that
-- the disk failed.
pub record CountsAs {D T E : Type 0} (g : Ghosts D) (fault : E) (old new : D) (result : Result T E)
    : Type 0 where
  pub later : g.moment_of old ≤ g.moment_of new
  pub faults : HasFault fault (g.faults_of old) (g.faults_of new) result
  pub stray : g.strays_of new ≡ g.strays_of old
