-- What callers see of a store, and how its calls change that.
use Rattle.std.specs.Prelude.{◌≡◌, ◌⊎◌, ◌==◌, ◌-◌, ◌^◌, ◌<◌, ◌≤◌, ℕ, Bool, true, false, IsTrue, List, [], ◌++◌, length, take, drop, map, Option, None, Some, is_some, nat_lt, if◌then◌else◌, Result, Err, OnOk, OnErr, ◌+◌, ⊤}
use Rattle.ctr_disk.specs.declared.disk.Disk.{Ghosts}
use Rattle.ctr_types.specs.Faults.{HasFault}
use Rattle.ctr_types.specs.declared.file.File.{File}
use Rattle.ctr_disk.specs.Image.{Image, content}
use Rattle.ctr_disk.specs.declared.fault.StoreFault.{StoreFault}
use Rattle.ctr_disk.specs.declared.fault.StoreFault.TheVariants.{Fault}
use Rattle.ctr_disk.specs.Device.{LeavesOnly}
use Rattle.ctr_rec.specs.declared.record.Record.{Record}
use Rattle.ctr_rec.specs.Spelling.{record_bytes}
use Rattle.ctr_rec.specs.declared.decoding.BadRecord.{BadRecord}
use Rattle.ctr_base.specs.meta_Kept.{TablesKept, IsLogged, RoomLeft, opens_added, items_added}
use Rattle.ctr_base.specs.meta_Effects.{effect}
use Rattle.ctr_base.specs.meta_Needs.{needs}
use Rattle.ctr_base.specs.redo_Overlaid.{overlay_of}
use Rattle.ctr_base.specs.redo_States.{State, steps, counting, grown}
use Rattle.ctr_base.specs.redo_Images.{FoldsFront, FoldsGrown}
use Rattle.ctr_base.specs.Base.{IsSoundImage}
use Rattle.ctr_base.specs.Growth.{AreBlank}
use Rattle.ctr_base.specs.redo_Fitting.{LiesInside}
use Rattle.ctr_store.specs.declared.store.TheConstants.{TURN_BYTES, TURN_FRAMES}
use Rattle.ctr_store.specs.Changes.{IsChange}
use Rattle.ctr_base.specs.log_Logs.{frames}
use Rattle.ctr_store.specs.Parts.{first_unsaved, home_by, record_end}
use Rattle.ctr_store.specs.RecordChecks.{record_damage}

-- The disk; what it folds to; the records that aren't hardened, in order; pages and tables with
-- these; the number of the next record, and the file and the byte where it would stand in the log;
-- the byte where the closed gate behind the log will stand once all that waits is hardened; the
-- number of the first record of the log's generation, and whether an older one is kept in the other
-- file; how many bytes of frames may wait besides; how many frames have nothing to be written home,
-- whether a page is to be, and which pages the frames have, each with the number of its first
-- record that isn't home; the tables as they are kept; whether a call was answered an error, after
-- which no more can be asked.
pub record View (D : Type 0) : Type 0 where
  pub disk : D
  pub hardened : State
  pub waiting : List Record
  pub now : State
  pub next : ℕ
  pub file : File
  pub place : ℕ
  pub gate : ℕ
  pub start : ℕ
  pub older : Bool
  pub room : ℕ
  pub frames : ℕ
  pub dirty : Bool
  pub held : List (ℕ × Option ℕ)
  pub meta : TablesKept
  pub stopped : Bool

-- where the home begins in the file of pages whose value a page is
abbrev pub page_home : {D : Type 0} → Ghosts D → ℕ → View D → ℕ
page_home g p v = home_by (is_some (first_unsaved p v.held)) v.now.counted p (g.reads v.disk)

-- how many bytes of the log's buffer the frames of these records take
abbrev pub waiting_bytes : List Record → ℕ
waiting_bytes rs = length (frames (map record_bytes rs))

-- there is room for a turn: two frames that have nothing to be written home, and 5,000 bytes
abbrev pub HasTurnRoom : {D : Type 0} → View D → Type 0
HasTurnRoom v = (TURN_FRAMES ≤ v.frames) × (TURN_BYTES ≤ v.room)

-- How many turns for room there are at most until there is room: one for the log's buffer where it
-- is short, and one for each frame that is wanted.
abbrev pub turns_for_room : {D : Type 0} → View D → ℕ
turns_for_room v = (if nat_lt v.room TURN_BYTES then 1 else 0) + (TURN_FRAMES - v.frames)

-- The page that is changed the longest went home, and no other: its first record that isn't home
-- has the least number of all. One frame more has nothing to be written home.
pub record WritesOldest {D : Type 0} (a b : View D) : Type 0 where
  pub page : ℕ
  pub since : ℕ
  pub changed : first_unsaved page a.held ≡ Some since
  pub least : (q s : ℕ) → first_unsaved q a.held ≡ Some s → since ≤ s
  pub others : (q : ℕ)
      → first_unsaved q b.held ≡ (if page == q then None else first_unsaved q a.held)
  pub frames : b.frames ≡ a.frames + 1

-- the frames are as they were
pub record KeepsFrames {D : Type 0} (a b : View D) : Type 0 where
  pub held : b.held ≡ a.held
  pub frames : b.frames ≡ a.frames
  pub dirty : b.dirty ≡ a.dirty

-- No page was to be written home; so no frame has one, and there are eight at least.
pub record WritesNone {D : Type 0} (a b : View D) : Type 0 where
  pub none : (q : ℕ) → first_unsaved q a.held ≡ None
  pub all : 8 ≤ a.frames
  pub same : KeepsFrames a b

-- how a call that writes one page home left the frames, by what it answered
abbrev pub WritesHome : {D : Type 0} → View D → View D → Bool → Type 0
WritesHome a b true = WritesOldest a b
WritesHome a b false = WritesNone a b

-- how many records the log's generation has, with those that wait
abbrev pub generation_size : {D : Type 0} → View D → ℕ
generation_size v = v.next - v.start

-- The file of the log goes on nearly to the log's end in an image: what lacks there is less than
-- the buffer takes.
abbrev pub ReachesEnd : {D : Type 0} → View D → Image → Type 0
ReachesEnd v image = v.gate < length (content v.file image) + 2 ^ 17

-- At each moment of a call a crash leaves what was hardened with a prefix of what wasn't, in a file
-- of the log that goes on nearly to its end.
pub record LeavesFront {D : Type 0} (g : Ghosts D) (a b : View D) : Type 0 where
  pub front : LeavesOnly g a.disk b.disk (FoldsFront a.hardened a.waiting)
  pub long : LeavesOnly g a.disk b.disk (ReachesEnd a)

-- However a call ends, the disk's clock didn't go back, the log's generation is the one of before,
-- and its end no earlier. No call of the disk went past the last place of a file, but where the log
-- ends at 2^62 + 2^61 or further on.
pub record MovesOn {D : Type 0} (g : Ghosts D) (a b : View D) : Type 0 where
  pub later : g.moment_of a.disk ≤ g.moment_of b.disk
  pub file : b.file ≡ a.file
  pub start : b.start ≡ a.start
  pub older : b.older ≡ a.older
  pub gate : a.gate ≤ b.gate
  pub stray : (g.strays_of b.disk ≡ g.strays_of a.disk) ⊎ (2 ^ 62 + 2 ^ 61 ≤ b.gate)

-- the file of the log has 2^62 bytes in an image
abbrev pub HasLongLog : {D : Type 0} → View D → Image → Type 0
HasLongLog v image = 2 ^ 62 ≤ length (content v.file image)

-- No call of the disk went past the last place of a file, but where each image that a crash leaves
-- has a file of the log of 2^62 bytes.
abbrev pub StraysOnlyLong : {D : Type 0} → Ghosts D → View D → View D → Type 0
StraysOnlyLong g a b = (g.strays_of b.disk ≡ g.strays_of a.disk)
    ⊎ LeavesOnly g a.disk b.disk (HasLongLog a)

-- The first of what waited is hardened now, these records wait behind the rest, and pages and
-- tables are those of before with them.
pub record Logs {D : Type 0} (rs : List Record) (a b : View D) : Type 0 where
  pub j : ℕ
  pub waiting : b.waiting ≡ drop j a.waiting ++ rs
  pub hardened : b.hardened ≡ steps (take j a.waiting) a.hardened
  pub now : b.now ≡ steps rs a.now

-- A record may be given to the log: no call was answered an error, it is a record and no
-- Checkpoint, its overlay lies on a counted page, and there is room for it and for what it adds to
-- the tables, and a number. Whether it fits the tables is no condition.
pub record MayLog {D : Type 0} (r : Record) (v : View D) : Type 0 where
  pub going : v.stopped ≡ false
  pub logged : IsLogged r
  pub change : IsChange r
  pub counted : LiesInside v.now.counted (overlay_of r)
  pub opens : opens_added r ≤ v.meta.opens_room
  pub items : items_added r ≤ v.meta.items_room
  pub room : TURN_BYTES ≤ v.room
  pub number : v.next < 2 ^ 63 - 1

-- what a record needs of the tables: the first need that isn't met is a row of damage
abbrev pub unmet_need : {D : Type 0} → Record → View D → Result ⊤ BadRecord
unmet_need r v = needs r v.meta.tables

-- where a record doesn't fit it is refused by the row that it fails, at the place where it would
-- stand, and nothing has changed
abbrev pub RefusesUnfit : {D T : Type 0} → Record → View D → View D → Result T StoreFault → Type 0
RefusesUnfit r a b result = (bad : BadRecord) → unmet_need r a ≡ Err bad
    → (result ≡ Err (record_damage a.file a.place bad)) × (b ≡ a)

-- A record has this number, the next one is one more, the log ends behind the record, the tables
-- that are kept are those with the record, this room is left, and as many pages are counted.
pub record TakesRecord {D : Type 0} (r : Record) (lsn : ℕ) (a b : View D) : Type 0 where
  pub number : lsn ≡ a.next
  pub next : b.next ≡ a.next + 1
  pub room : a.room ≤ b.room + (8 + length (record_bytes r))
  pub gate : b.gate ≤ a.gate + record_end r
  pub tables : b.meta.tables ≡ effect r a.meta.tables
  pub left : RoomLeft (opens_added r) (items_added r) a.meta b.meta
  pub counted : b.now.counted ≡ a.now.counted

-- However a call ends, the number of the next record is that of before and the log's end, as many
-- pages are counted, and room for records isn't lost.
pub record KeepsRoom {D : Type 0} (a b : View D) : Type 0 where
  pub next : b.next ≡ a.next
  pub room : a.room ≤ b.room
  pub gate : b.gate ≡ a.gate
  pub meta : b.meta ≡ a.meta
  pub counted : b.now.counted ≡ a.now.counted

-- What a call leaves that logs no record; of one that lends a page, once the loan is over.
pub record LeavesPage {D T : Type 0} (first : Image) (g : Ghosts D) (old new : View D)
    (result : Result T StoreFault) : Type 0 where
  pub any_moment : IsTrue g.tells → IsSoundImage first → LeavesFront g old new
  pub logs : IsTrue g.tells → IsSoundImage first → OnOk result (Logs [] old new)
  pub keeps : KeepsRoom old new
  pub time : MovesOn g old new
  pub going : OnOk result (new.stopped ≡ false)
  pub stopped : OnErr result (new.stopped ≡ true)
  pub refused : IsTrue g.tells → IsSoundImage first → OnErr result (result ≡ Err Fault)
  pub faults : HasFault Fault (g.faults_of old.disk) (g.faults_of new.disk) result

-- ---- growth

-- At each moment of a growth a crash leaves what was hardened, with the old count of pages or the
-- new one.
abbrev pub LeavesGrowing : {D : Type 0} → Ghosts D → View D → View D → Type 0
LeavesGrowing g a b = LeavesOnly g a.disk b.disk (FoldsGrown a.hardened)

-- More pages are counted, each of which has nothing; pages and tables are those of before, of what
-- is hardened and of all. That is durable: a crash leaves the new count with a prefix of what
-- waits.
pub record GrowsByExtent {D : Type 0} (g : Ghosts D) (a b : View D) : Type 0 where
  pub hardened : b.hardened ≡ counting (grown a.now.counted) a.hardened
  pub now : b.now ≡ counting (grown a.now.counted) a.now
  pub blank : AreBlank a.now.counted b.now.counted b.now
  pub durable : LeavesFront g b b

-- All but the disk, what it folds to, and whether a call was answered an error is as it was. No
-- call of the disk went past the last place of a file. More pages are counted behind an Ok alone,
-- and behind an error no more can be asked.
pub record CountsUp {D T : Type 0} (g : Ghosts D) (a b : View D) (result : Result T StoreFault)
    : Type 0 where
  pub same : b ≡ record a { disk = b.disk; hardened = b.hardened; now = b.now; stopped = b.stopped }
  pub time : MovesOn g a b
  pub strays : g.strays_of b.disk ≡ g.strays_of a.disk
  pub counted : OnOk result (b.now.counted ≡ grown a.now.counted)
  pub uncounted : OnErr result (b.now.counted ≡ a.now.counted)
  pub going : OnOk result (b.stopped ≡ false)
  pub stopped : OnErr result (b.stopped ≡ true)
