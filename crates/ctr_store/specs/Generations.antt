-- What callers see of a generation of the log that begins, and of an older one that goes.
use Rattle.std.specs.Prelude.{◌≡◌, ◌+◌, ◌-◌, ◌*◌, ◌^◌, ◌<◌, ◌≤◌, ℕ, Bool, true, false, List, [], ◌∷◌, ◌++◌, length, drop, Some, Result, Ok, Err}
use Rattle.ctr_disk.specs.declared.disk.Disk.{Ghosts}
use Rattle.ctr_disk.specs.declared.fault.StoreFault.{StoreFault}
use Rattle.ctr_base.specs.ctr_home.declared.root.Root.{Root}
use Rattle.ctr_base.specs.ctr_home.declared.block.Block.TheVariants.{Root as RootBlock}
use Rattle.ctr_base.specs.ctr_home.Blocks.{value_of}
use Rattle.ctr_base.specs.ctr_home.Roots.{SaysRoot}
use Rattle.ctr_base.specs.log_Kept.{next_file}
use Rattle.ctr_rec.specs.declared.decoding.BadRecord.{BadRecord}
use Rattle.ctr_rec.specs.declared.record.Record.TheVariants.{Checkpoint}
use Rattle.ctr_base.specs.meta_Tables.{Tables}
use Rattle.ctr_base.specs.meta_Effects.{listed}
use Rattle.ctr_base.specs.pool_Frames.{since_in}
use Rattle.ctr_base.specs.redo_Images.{stored_in}
use Rattle.ctr_store.specs.declared.opening.TheConstants.{BUFFER_BYTES}
use Rattle.ctr_store.specs.declared.parts.Parts.{Parts}
use Rattle.ctr_store.specs.declared.store.Generation.{Generation}
use Rattle.ctr_store.specs.declared.store.Generation.TheVariants.{Begun, OutOfMemory}
use Rattle.ctr_store.specs.declared.store.TheConstants.{DUE_RECORDS}
use Rattle.ctr_store.specs.Parts.{first_unsaved}
use Rattle.ctr_store.specs.RecordChecks.{record_damage}
use Rattle.ctr_store.specs.Store.{View, KeepsFrames, generation_size, LeavesFront}

-- a new generation is due: the current one has 1,000 records, and no older one is kept
abbrev pub IsDue : {D : Type 0} → View D → Type 0
IsDue v = (DUE_RECORDS ≤ generation_size v) × (v.older ≡ false)

-- One may begin: no call was answered an error, no older one is kept, the log is durable, and there
-- is a number.
pub record MayBegin {D : Type 0} (v : View D) : Type 0 where
  pub going : v.stopped ≡ false
  pub one : v.older ≡ false
  pub durable : v.waiting ≡ []
  pub number : v.next < 2 ^ 63 - 1

-- how many bytes the log of a generation has that has the Checkpoint of tables alone, before its
-- closed gate
abbrev pub checkpoint_end : Tables → ℕ
checkpoint_end t = 63 + 16 * (length t.opens + length t.aborted) + 13 * length t.items

-- A generation began, in the other file, with one record, behind which its log ends. Nothing waits,
-- and frames, tables and the count of pages are as they were.
pub record BeginsGeneration {D : Type 0} (a b : View D) : Type 0 where
  pub older : b.older ≡ true
  pub file : b.file ≡ next_file a.file
  pub start : b.start ≡ a.next
  pub next : b.next ≡ a.next + 1
  pub gate : b.gate ≡ checkpoint_end a.meta.tables
  pub none : b.waiting ≡ []
  pub room : b.room ≡ BUFFER_BYTES
  pub frames : KeepsFrames a b
  pub meta : b.meta ≡ a.meta
  pub counted : b.now.counted ≡ a.now.counted

-- but for the disk, what it folds to, and whether a call was answered an error, all is as it was
abbrev pub SameButDisk : {D : Type 0} → View D → View D → Type 0
SameButDisk a b =
    (b ≡ record a { disk = b.disk; hardened = b.hardened; now = b.now; stopped = b.stopped })
    × (b.now.counted ≡ a.now.counted)

-- how the begin of a generation leaves a store, by its answer; where memory was refused nothing has
-- changed
abbrev pub AnswersBegin : {D : Type 0} → View D → View D → Result Generation StoreFault → Type 0
AnswersBegin a b (Ok Begun) = BeginsGeneration a b
AnswersBegin a b (Ok OutOfMemory) = b ≡ a
AnswersBegin a b (Err e) = SameButDisk a b

-- Pages and tables are those of before, of what is hardened and of all; and that is what a crash
-- leaves, with a prefix of what waits.
pub record ShowsSame {D : Type 0} (g : Ghosts D) (a b : View D) : Type 0 where
  pub hardened : b.hardened ≡ a.hardened
  pub now : b.now ≡ a.now
  pub durable : LeavesFront g b b

-- The disk's log has one record more, which is a Checkpoint and lists the tables: the next
-- transaction, each that is open and each that is in the aborted transaction map, with its heads,
-- and the items of the secondary log.
pub record AddsCheckpoint {D : Type 0} (g : Ghosts D) (a b : View D) : Type 0 where
  pub root : Root
  pub says : SaysRoot (value_of RootBlock (g.reads b.disk)) root
  pub next : ℕ
  pub lists : List ℕ
  pub added : (stored_in root (g.reads b.disk)).records
      ≡ (stored_in root (g.reads a.disk)).records ++ Checkpoint next lists ∷ []
  pub lists_are : listed next lists ≡ a.meta.tables

-- Where the tables don't meet the need of a Checkpoint, it is refused by the row that they fail, at
-- the place where it would stand, or for want of memory; and nothing has changed.
abbrev pub RefusesCheckpoint : {D : Type 0} → BadRecord → View D → View D
    → Result Generation StoreFault → Type 0
RefusesCheckpoint bad a b (Ok Begun) = ⊥
RefusesCheckpoint bad a b (Ok OutOfMemory) = b ≡ a
RefusesCheckpoint bad a b (Err e) = (b ≡ a) × (e ≡ record_damage (next_file a.file) 29 bad)

-- ---- the older one goes

-- An older generation is kept, and no page has been changed since before the current one began that
-- isn't home.
abbrev pub CanEnd : {D : Type 0} → View D → Type 0
CanEnd v =
    (v.older ≡ true) × ((p since : ℕ) → first_unsaved p v.held ≡ Some since → v.start ≤ since)

-- so it is of the parts
abbrev pub CanDrop : {D O : Type 0} → Parts D O → Type 0
CanDrop s = (s.base.log.older ≡ true)
    × ((p since : ℕ) → since_in p s.pool.frames ≡ Some since → s.base.log.start ≤ since)

-- the older one isn't kept any more; all else is as it was, but for the disk and what it folds to
abbrev pub ForgetsOlder : {D : Type 0} → View D → View D → Type 0
ForgetsOlder a b =
    (b ≡ record a {
      disk = b.disk;
      hardened = b.hardened;
      now = b.now;
      older = false;
      stopped = b.stopped;
    })
    × (b.now.counted ≡ a.now.counted)

-- how its end leaves a store, by the answer
abbrev pub AnswersEnd : {D : Type 0} → View D → View D → Result Bool StoreFault → Type 0
AnswersEnd a b (Ok true) = ForgetsOlder a b
AnswersEnd a b (Ok false) = b ≡ a
AnswersEnd a b (Err e) = SameButDisk a b

-- The root of the disk names the current generation by its first number, and the records of the
-- disk's log are those from there on: the older ones are never read again.
pub record NamesCurrent {D : Type 0} (g : Ghosts D) (a b : View D) : Type 0 where
  pub root : Root
  pub says : SaysRoot (value_of RootBlock (g.reads b.disk)) root
  pub first : root.first ≡ b.start
  pub old : Root
  pub said : SaysRoot (value_of RootBlock (g.reads a.disk)) old
  pub left : (stored_in root (g.reads b.disk)).records
      ≡ drop (b.start - old.first) (stored_in old (g.reads a.disk)).records
