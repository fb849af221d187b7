-- What the fields of a store stand for, and what they keep.
use Rattle.std.specs.Prelude.{◌≡◌, ◌+◌, ◌-◌, Bool, false, IsTrue, length}
use Rattle.ctr_disk.specs.declared.disk.Disk.{Ghosts}
use Rattle.ctr_disk.specs.Image.{Image}
use Rattle.ctr_base.specs.log_Logs.{frames, log_end, next_place}
use Rattle.ctr_base.specs.pool_Over.{unchanged}
use Rattle.ctr_base.specs.redo_States.{state_of}
use Rattle.ctr_base.specs.Base.{stored_of, waiting_of, now_of, IsSoundImage}
use Rattle.ctr_store.specs.declared.opening.TheConstants.{BUFFER_BYTES}
use Rattle.ctr_store.specs.declared.parts.Parts.{Parts}
use Rattle.ctr_store.specs.declared.store.Store.TheInside.{Inside}
use Rattle.ctr_store.specs.Numbers.{NumbersLow}
use Rattle.ctr_store.specs.Parts.{IsFold, HasBuffer, MayCount, Recalls, pages_held, some_dirty}
use Rattle.ctr_store.specs.Store.{View}

-- what callers see of the parts
abbrev pub view_of : {D O : Type 0} → Ghosts D → Parts D O → Bool → View D
view_of g s stopped = record {
  disk = s.base.disk;
  hardened = state_of (stored_of g s.base);
  waiting = waiting_of s.base;
  now = state_of (now_of g s.base);
  next = s.base.log.first + length s.base.log.buffered;
  file = s.base.log.file;
  place = next_place s.base.log;
  gate = log_end s.base.log;
  start = s.base.log.start;
  older = s.base.log.older;
  room = BUFFER_BYTES - length (frames s.base.log.buffered);
  frames = unchanged s.pool;
  dirty = some_dirty s.pool.frames;
  held = pages_held s.pool.frames;
  meta = s.meta;
  stopped = stopped;
}

-- What a store shows, by the fields of the code.
abbrev pub view_in : {D O : Type 0} → Ghosts D → Inside D O → View D
view_in g a = view_of g a.parts a.stopped

-- What it shows is the fold of the records on the disk and behind them those that wait, where no
-- call was answered an error, and over those pages what is remembered of the places of keys is
-- exact, if the first image was sound; the log's buffer is there, of which what waits takes a
-- part; as many pages are counted as may be; and the numbers that the tables count with are bound
-- by the next LSN, which is below 2^63.
pub record IsStore {D O : Type 0} (first : Image) (g : Ghosts D) (a : Inside D O) : Type 0 where
  pub fold : IsTrue g.tells → a.stopped ≡ false → IsFold first g a.parts
  pub recalls : IsTrue g.tells → IsSoundImage first → a.stopped ≡ false
      → Recalls g a.parts a.directory
  pub buffer : HasBuffer a.parts.base.log
  pub counted : MayCount a.parts.base.root.pages
  pub numbers : NumbersLow (a.parts.base.log.first + length a.parts.base.log.buffered)
      a.parts.meta.tables
