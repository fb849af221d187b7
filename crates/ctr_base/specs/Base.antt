-- The log and the homes below a pool, on which nothing is pending, and how they change.
use Rattle.std.specs.Prelude.{IsTrue, ◌≡◌, ◌≢◌, ◌⊎◌, ℕ, ◌+◌, ◌-◌, ◌*◌, ◌^◌, ◌<◌, ◌≤◌, List, [], length, take, drop, Result, Ok, Err, Some, ⊤}
use Rattle.ctr_disk.specs.declared.disk.Disk.{Ghosts}
use Rattle.ctr_disk.specs.Device.{LeavesOnly, IsDurable}
use Rattle.ctr_disk.specs.Image.{Image, content}
use Rattle.ctr_types.specs.declared.file.File.TheVariants.{Pages}
use Rattle.ctr_redo.specs.home_Root.{Root}
use Rattle.ctr_redo.specs.log_Kept.{WritesBehind, StartsAt}
use Rattle.ctr_redo.specs.log_Logs.{Log, Batches, GoesOn, buffer_size, log_end, WaitsOrNone}
use Rattle.ctr_redo.specs.rec_Record.{Record}
use Rattle.ctr_disk.specs.declared.fault.StoreFault.{StoreFault}
use Rattle.ctr_disk.specs.declared.fault.StoreFault.TheVariants.{Fault}
use Rattle.ctr_redo.specs.ctr_pool.Pages.{PageHeld}
use Rattle.ctr_redo.specs.ctr_pool.declared.backing.Backing.{Ghosts as BackingGhosts}
use Rattle.ctr_redo.specs.Overlaid.{overlaid}
use Rattle.ctr_redo.specs.home_Block_TheVariants.{Page, Root as RootBlock}
use Rattle.ctr_redo.specs.home_Blocks.{BlockValue, value_of}
use Rattle.ctr_redo.specs.home_Reading.{IsMisnumbered}
use Rattle.ctr_redo.specs.home_Roots.{SaysRoot}
use Rattle.ctr_redo.specs.Fitting.{MayFollow}
use Rattle.ctr_redo.specs.States.{Stored, state_of, steps, with_more, next_of}
use Rattle.ctr_redo.specs.Images.{records_in, home_in, stored_in, IsSound, FoldsFront, IsLogFile}
use Rattle.ctr_base.specs.declared.base.Base.{Base}
use Rattle.ctr_base.specs.Homes.{HomesSince}

-- what stands on the disk
abbrev pub stored_of : {D O : Type 0} → Ghosts D → Base D O → Stored
stored_of g b = stored_in b.root (g.reads b.disk)

-- the records that wait in the log's buffer
abbrev pub waiting_of : {D O : Type 0} → Base D O → List Record
waiting_of b = records_in b.log.buffered

-- what stands on the disk, with what waits behind its log
abbrev pub now_of : {D O : Type 0} → Ghosts D → Base D O → Stored
now_of g b = with_more (waiting_of b) (stored_of g b)

-- a page as it stands at home
abbrev pub home_of : {D O : Type 0} → Ghosts D → Base D O → ℕ → PageHeld
home_of g b p = home_in b.root.pages (g.reads b.disk) p

-- A page that may go home once its records are durable: it has all records so far, or the records
-- on the disk make the same page of it as of what is at home. What is at home has all records below
-- that of its first change since.
pub record MaySave {D O : Type 0} (g : Ghosts D) (b : Base D O) (p since : ℕ) (v : PageHeld)
    : Type 0 where
  pub counted : p < b.root.pages
  pub above : (home_of g b p).lsn < v.lsn
  pub low : v.lsn < next_of (now_of g b)
  pub is : (v ≡ overlaid p b.root.first (now_of g b).records (home_of g b p))
      ⊎ (overlaid p b.root.first (stored_of g b).records v
      ≡ overlaid p b.root.first (stored_of g b).records (home_of g b p))
  pub early : since < next_of (now_of g b)
  pub behind : overlaid p b.root.first (take (since - b.root.first) (now_of g b).records)
      (home_of g b p)
      ≡ home_of g b p

-- Nothing is pending on the disk, which is sound; the log goes on behind what it holds, and the
-- records that wait may follow there.
pub record IsQuiet {D O : Type 0} (g : Ghosts D) (b : Base D O) : Type 0 where
  pub only : IsDurable g b.disk
  pub sound : IsSound b.root (g.reads b.disk)
  pub writes : WritesBehind b.root.file b.root.first b.log (g.reads b.disk)
  pub follows : MayFollow b.root b.log.file b.log.buffered (g.reads b.disk)
  pub durable : b.durable ≡ next_of (stored_of g b)
  pub first : b.log.first ≡ next_of (stored_of g b)

-- the place of the closed gate behind a writer's log lies in its file
abbrev pub HasGate : Log → Image → Type 0
HasGate log image = log.place < length (content log.file image)

-- At each moment from one to another a crash leaves what was hardened with a prefix of what waited,
-- in a file of the log that goes on behind what was hardened.
pub record LeavesBase {D O : Type 0} (g : Ghosts D) (a b : Base D O) : Type 0 where
  pub front : LeavesOnly g a.disk b.disk (FoldsFront (state_of (stored_of g a)) (waiting_of a))
  pub gate : LeavesOnly g a.disk b.disk (HasGate a.log)

-- The first of what waited is durable now; the root, the records in order and each page with them
-- are as they were.
pub record MovesBase {D O : Type 0} (g : Ghosts D) (a b : Base D O) : Type 0 where
  pub j : ℕ
  pub at_most : j ≤ length (waiting_of a)
  pub waiting : waiting_of b ≡ drop j (waiting_of a)
  pub hardened : state_of (stored_of g b) ≡ steps (take j (waiting_of a)) (state_of (stored_of g a))
  pub now : state_of (now_of g b) ≡ state_of (now_of g a)
  pub root : b.root ≡ a.root
  pub file : b.log.file ≡ a.log.file
  pub place : a.log.place ≤ b.log.place
  pub all : (now_of g b).records ≡ (now_of g a).records
  pub pages : (q : ℕ) → overlaid q b.root.first (now_of g b).records (home_of g b q)
      ≡ overlaid q a.root.first (now_of g a).records (home_of g a q)

-- From one moment of a disk to another its clock didn't go back, and no call went past the last
-- place, but where the log ends so far on that its file has nearly as many bytes as a file can
-- have.
pub record GoesOnTo {D : Type 0} (g : Ghosts D) (old new : D) (end : ℕ) : Type 0 where
  pub later : g.moment_of old ≤ g.moment_of new
  pub stray : (g.strays_of new ≡ g.strays_of old) ⊎ (2 ^ 62 + 2 ^ 61 ≤ end)

-- However a call ends, the root, the log's generation and the number of the next record are those
-- of before; the log's buffer isn't smaller, and in it the same records wait, or none, so that the
-- log ends at the same place. Where none waited, no call of the disk went past the last place.
pub record KeepsBase {D O : Type 0} (g : Ghosts D) (a b : Base D O) : Type 0 where
  pub root : b.root ≡ a.root
  pub file : b.log.file ≡ a.log.file
  pub older : b.log.older ≡ a.log.older
  pub start : b.log.start ≡ a.log.start
  pub ends : log_end b.log ≡ log_end a.log
  pub goes : GoesOnTo g a.disk b.disk (log_end a.log)
  pub size : buffer_size a.log ≤ buffer_size b.log
  pub next : b.log.first + length b.log.buffered ≡ a.log.first + length a.log.buffered
  pub waits : WaitsOrNone a.log b.log
  pub stray : a.log.buffered ≡ [] → g.strays_of b.disk ≡ g.strays_of a.disk

-- ---- what holds of every disk, and what holds besides where the first image was sound

-- an image is sound, by some root
abbrev pub IsSoundImage : Image → Type 0
IsSoundImage image = (root : Root) × IsSound root image

-- what holds where the disk tells what it holds, and the first image was sound
abbrev pub WhereSound : {D : Type 0} → Image → Ghosts D → Type 0 → Type 0
WhereSound first g P = IsTrue g.tells → IsSoundImage first → P

-- Whatever the disk holds: it says the root, the log's writer goes on behind the batches of its
-- file, in a generation that begins at the root's number, or behind it where an older one is kept,
-- and the file of pages has all that are counted.
pub record StandsWell {D O : Type 0} (g : Ghosts D) (b : Base D O) : Type 0 where
  pub says : SaysRoot (value_of RootBlock (g.reads b.disk)) b.root
  pub file : IsLogFile b.log.file
  pub goes_on : (oldest : ℕ) × (bs : Batches) × GoesOn oldest bs b.log (g.reads b.disk)
  pub size : 8256 * b.root.pages ≤ length (content Pages (g.reads b.disk))
  pub starts : StartsAt b.log.older b.root.first b.log.start

-- The disk's parts stand well; each page is at home as in the first image, or was written since;
-- and where that image was sound nothing is pending.
pub record StandsQuiet {D O : Type 0} (first : Image) (g : Ghosts D) (b : Base D O) : Type 0 where
  pub stands : StandsWell g b
  pub since : HomesSince first b.root.pages (g.reads b.disk)
  pub quiet : IsSoundImage first → IsQuiet g b

-- what a crash leaves, where the first image was sound
abbrev pub LeavesIf : {D O : Type 0} → Image → Ghosts D → Base D O → Base D O → Type 0
LeavesIf first g a b = IsSoundImage first → LeavesBase g a b

-- how it moves, where the first image was sound
abbrev pub MovesIf : {D O : Type 0} → Image → Ghosts D → Base D O → Base D O → Type 0
MovesIf first g a b = IsSoundImage first → MovesBase g a b

-- A page with changes goes home above what is held. Where the first image was sound, it may go home
-- once its records are durable.
pub record MayPut {D O : Type 0} (first : Image) (g : Ghosts D) (b : Base D O) (p since : ℕ)
    (v : PageHeld) : Type 0 where
  pub counted : p < b.root.pages
  pub above : (home_of g b p).lsn < v.lsn
  pub sound : IsSoundImage first → MaySave g b p since v

-- a page is this at home now, and the others and the log are as they were
pub record IsHome {D O : Type 0} (g : Ghosts D) (p : ℕ) (v : PageHeld) (a b : Base D O) : Type 0
  where
    pub there : home_of g b p ≡ v
    pub others : (q : ℕ) → q ≢ p → home_of g b q ≡ home_of g a q
    pub records : (stored_of g b).records ≡ (stored_of g a).records
    pub log : b.log ≡ a.log
    pub root : b.root ≡ a.root

-- A page goes home: it may, and where the first image was sound its records are durable.
pub record GoesHome {D O : Type 0} (first : Image) (g : Ghosts D) (b : Base D O) (p : ℕ)
    (v : PageHeld) : Type 0 where
  pub rests : StandsQuiet first g b
  pub since : ℕ
  pub may : MayPut first g b p since v
  pub durable : IsSoundImage first → v.lsn < b.durable

-- What the reading of a page at home found: that a counted page has its number there, or that it
-- has another one.
abbrev pub FindsNumber : {D O : Type 0} → Image → Ghosts D → Base D O → ℕ → Result ⊤ StoreFault
    → Type 0
FindsNumber first g b p (Ok t) = p < b.root.pages
    → (v : BlockValue) → value_of (Page p) (g.reads b.disk) ≡ Some v → v.number ≡ p
FindsNumber first g b p (Err e) =
    StandsQuiet first g b × IsMisnumbered (Page p) (g.reads b.disk) e

-- the log and the homes as the backing of a pool, whose first image was this
abbrev pub backing_of : {D O : Type 0} → Image → Ghosts D → BackingGhosts (Base D O)
backing_of first g = record {
  tells = g.tells;
  held = home_of g;
  may_be_saved = MayPut first g;
  rests = StandsQuiet first g;
  leaves_between = LeavesIf first g;
  may_change = MovesIf first g;
  keeps = KeepsBase g;
  fails = λ a b e. IsSoundImage first → e ≡ Fault;
  finds = FindsNumber first g;
  faults_of = λ b. g.faults_of b.disk;
}
