-- What the parts of a store keep, and what a record adds.
use Rattle.std.specs.Prelude.{◌≡◌, ◌⊎◌, ℕ, ◌+◌, ◌-◌, ◌^◌, ◌<◌, ◌≤◌, ◌==◌, Bool, List, [], ◌∷◌, ◌++◌, length, take, drop, map, Option, None, Some, is_some, nat_lt, if◌then◌else◌}
use Rattle.std.specs.List.{list_any}
use Rattle.ctr_base.specs.log_Logs.{Log, buffer_size, log_end, frames}
use Rattle.ctr_base.specs.redo_Images.{records_in}
use Rattle.ctr_disk.specs.declared.disk.Disk.{Ghosts}
use Rattle.ctr_disk.specs.Image.{Image}
use Rattle.ctr_base.specs.ctr_home.declared.block.Block.TheVariants.{Page}
use Rattle.ctr_base.specs.ctr_home.declared.block.Home.TheVariants.{First}
use Rattle.ctr_base.specs.ctr_home.Blocks.{home_place, value_place}
use Rattle.ctr_rec.specs.declared.record.Record.{Record}
use Rattle.ctr_rec.specs.Spelling.{record_bytes}
use Rattle.ctr_base.specs.meta_Effects.{effect, tables_of}
use Rattle.ctr_base.specs.meta_Kept.{IsLogged, MayApply, RoomLeft, opens_added, items_added}
use Rattle.ctr_base.specs.pool_Frame.{Frame}
use Rattle.ctr_base.specs.pool_Frames.{frame_of, page_shown, since_in}
use Rattle.ctr_base.specs.pool_Over.{IsOver, ShowsSamePages}
use Rattle.ctr_base.specs.redo_Overlaid.{overlay_of, overlaid}
use Rattle.ctr_base.specs.redo_States.{State, state_of, step, steps, page_at}
use Rattle.ctr_base.specs.declared.base.Base.{Base}
use Rattle.ctr_base.specs.declared.growing.TheConstants.{EXTENT, MOST_PAGES}
use Rattle.ctr_base.specs.Base.{stored_of, waiting_of, now_of, home_of, IsSoundImage, MovesIf, GoesOnTo, backing_of}
use Rattle.ctr_base.specs.redo_Fitting.{LiesInside}
use Rattle.ctr_directory.specs.declared.directory.Directory.{Directory}
use Rattle.ctr_directory.specs.Exact.{IsExact}
use Rattle.ctr_store.specs.Changes.{IsChange}
use Rattle.ctr_store.specs.declared.opening.TheConstants.{BUFFER_BYTES}
use Rattle.ctr_store.specs.declared.parts.Parts.{Parts}

-- The pool stands over the log and the homes. Where the first image was sound, nothing is pending,
-- the tables are those that all records leave, on the disk and behind them those that wait; and
-- each page is its home with all of them.
pub record IsFold {D O : Type 0} (first : Image) (g : Ghosts D) (s : Parts D O) : Type 0 where
  pub over : IsOver (backing_of first g) s.pool.frames s.base
  pub tables : IsSoundImage first → s.meta.tables ≡ tables_of (now_of g s.base).records
  pub current : IsSoundImage first → (p : ℕ) → page_shown s.pool.frames p (home_of g s.base p)
      ≡ overlaid p s.base.root.first (now_of g s.base).records (home_of g s.base p)

-- a frame's page has changes that aren't home
abbrev pub has_change : List Frame → Frame → Bool
has_change fs f = is_some (since_in f.page fs)

-- Some frame has a page with changes that aren't saved.
abbrev pub some_dirty : List Frame → Bool
some_dirty fs = list_any (has_change fs) fs

-- the pages that frames have, each with the number of its first record that isn't home, where it
-- has one
abbrev pub pages_held : List Frame → List (ℕ × Option ℕ)
pages_held fs = map (λ f. (f.page, f.since)) fs

-- the number of a page's first record that isn't home, where a frame has the page with such a
-- record
abbrev pub first_unsaved : ℕ → List (ℕ × Option ℕ) → Option ℕ
first_unsaved p [] = None
first_unsaved p (h ∷ hs) = if h.0 == p then h.1 else first_unsaved p hs

-- The log's buffer isn't smaller than 65,536 bytes, the frames of what waits take no more, and they
-- are spelled as those records are.
pub record HasBuffer (log : Log) : Type 0 where
  pub size : BUFFER_BYTES ≤ buffer_size log
  pub most : length (frames log.buffered) ≤ BUFFER_BYTES
  pub spelled : map record_bytes (records_in log.buffered) ≡ log.buffered

-- a frame of a page has no record that the log lacks, with those that wait
abbrev pub IsLowFrame : {D O : Type 0} → ℕ → Parts D O → Type 0
IsLowFrame p s = (f : Frame) → frame_of p s.pool.frames ≡ Some f
    → f.lsn < s.base.log.first + length s.base.log.buffered

-- no page has a record that the log lacks, with those that wait
abbrev pub AreLow : {D O : Type 0} → Ghosts D → Parts D O → Type 0
AreLow g s = (p : ℕ) → (page_shown s.pool.frames p (home_of g s.base p)).lsn
    < s.base.log.first + length s.base.log.buffered

-- Where the home begins in the file of pages whose value a page is: its first home where it was
-- changed in its frame since it was written home, where it isn't counted, and where no home of it
-- is open.
abbrev pub home_by : Bool → ℕ → ℕ → Image → ℕ
home_by changed counted p image =
    if changed then home_place (Page p) First else
    if nat_lt p counted then value_place (Page p) image else home_place (Page p) First

-- Where the home of a page's value begins in the file of pages, by the parts of a store.
abbrev pub home_at : {D O : Type 0} → Ghosts D → ℕ → Parts D O → ℕ
home_at g p s =
    let changed = is_some (first_unsaved p (pages_held s.pool.frames)) in
    home_by changed s.base.root.pages p (g.reads s.base.disk)

-- So many pages may be counted: 64 to 30,000.
abbrev pub MayCount : ℕ → Type 0
MayCount n = (EXTENT ≤ n) × (n ≤ MOST_PAGES)

-- what is remembered of the keys' places is exact over the pages of a state
abbrev pub IsExactOver : State → Directory → Type 0
IsExactOver x d = IsExact x.counted (λ p. page_at p x.pages) d

-- what is remembered of the keys' places is exact over the pages of a store's parts, with all
-- records
abbrev pub Recalls : {D O : Type 0} → Ghosts D → Parts D O → Directory → Type 0
Recalls g s d = IsExactOver (state_of (now_of g s.base)) d

-- A page came into a frame: below the pool the first of what waited became durable, or a page went
-- home; over that each page is as it was.
pub record BringsOver {D O : Type 0} (first : Image) (g : Ghosts D) (s t : Parts D O) : Type 0 where
  pub moves : MovesIf first g s.base t.base
  pub shows : ShowsSamePages (backing_of first g) s.pool.frames s.base t.pool.frames t.base
  pub over : IsOver (backing_of first g) t.pool.frames t.base

-- A record can be logged: it is one and no Checkpoint, its overlay lies on a counted page, of
-- which there are as many as may be, the tables meet its needs and have room for what it adds; and
-- there is room for its bytes and its number.
pub record CanLog {D O : Type 0} (r : Record) (s : Parts D O) : Type 0 where
  pub logged : IsLogged r
  pub change : IsChange r
  pub counted : LiesInside s.base.root.pages (overlay_of r)
  pub pages : MayCount s.base.root.pages
  pub may : MayApply r s.meta
  pub room : 8 + length (record_bytes r) ≤ s.base.log.room
  pub number : s.base.log.first + length s.base.log.buffered < 2 ^ 63 - 1

-- A record more waits: what is hardened is as it was, and the state is one step on.
pub record AddsRecord {D O : Type 0} (g : Ghosts D) (r : Record) (s t : Parts D O) : Type 0 where
  pub waiting : waiting_of t.base ≡ waiting_of s.base ++ r ∷ []
  pub hardened : state_of (stored_of g t.base) ≡ state_of (stored_of g s.base)
  pub root : t.base.root ≡ s.base.root
  pub now : state_of (now_of g t.base) ≡ step r (state_of (now_of g s.base))

-- However a call ends, the log's generation is the one of before, its end is no earlier and at most
-- so many bytes further on, and time went on.
pub record EndsWithin {D O : Type 0} (g : Ghosts D) (more : ℕ) (a b : Base D O) : Type 0 where
  pub file : b.log.file ≡ a.log.file
  pub older : b.log.older ≡ a.log.older
  pub start : b.log.start ≡ a.log.start
  pub gate : log_end a.log ≤ log_end b.log
  pub near : log_end b.log ≤ log_end a.log + more
  pub goes : GoesOnTo g a.disk b.disk (log_end b.log)

-- how many bytes further on the log ends at most behind a record more: those of a batch's gate, of
-- its first fields, of the record's length, and its own
abbrev pub record_end : Record → ℕ
record_end r = 29 + length (record_bytes r)

-- A record more waits, behind those that waited or alone. The log's buffer isn't smaller, the next
-- number is one more, the tables that are kept are those with the record and this room is left in
-- them, and as many pages are counted.
pub record LogsRoom {D O : Type 0} (g : Ghosts D) (r : Record) (s t : Parts D O) : Type 0 where
  pub size : buffer_size s.base.log ≤ buffer_size t.base.log
  pub waits : (t.base.log.buffered ≡ s.base.log.buffered ++ record_bytes r ∷ [])
      ⊎ (t.base.log.buffered ≡ record_bytes r ∷ [])
  pub next : t.base.log.first + length t.base.log.buffered
      ≡ s.base.log.first + length s.base.log.buffered + 1
  pub ends : EndsWithin g (record_end r) s.base t.base
  pub tables : t.meta.tables ≡ effect r s.meta.tables
  pub left : RoomLeft (opens_added r) (items_added r) s.meta t.meta
  pub pages : t.base.root.pages ≡ s.base.root.pages

-- The first of what waited is durable now, and a record more waits behind the rest.
pub record LogsRecord {D O : Type 0} (g : Ghosts D) (r : Record) (a b : Base D O) : Type 0 where
  pub j : ℕ
  pub waiting : waiting_of b ≡ drop j (waiting_of a) ++ r ∷ []
  pub hardened : state_of (stored_of g b) ≡ steps (take j (waiting_of a)) (state_of (stored_of g a))
  pub now : state_of (now_of g b) ≡ step r (state_of (now_of g a))
  pub root : b.root ≡ a.root
