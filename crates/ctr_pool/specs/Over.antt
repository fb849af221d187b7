-- A pool over what is held below it.
use Rattle.std.specs.Prelude.{◌≡◌, ◌≢◌, ◌==◌, ◌+◌, ◌-◌, ℕ, ◌<◌, ◌≤◌, Bool, true, false, IsTrue, List, Option, None, Some, Result, IfErr, OnOk, if◌then◌else◌}
use Rattle.ctr_disk.specs.types_Faults.{HasFault}
use Rattle.ctr_disk.specs.declared.fault.StoreFault.{StoreFault}
use Rattle.ctr_disk.specs.declared.fault.StoreFault.TheVariants.{Fault}
use Rattle.ctr_pool.specs.declared.backing.Backing.{Ghosts}
use Rattle.ctr_pool.specs.declared.frame.Frame.{Frame}
use Rattle.ctr_pool.specs.Pages.{PageHeld}
use Rattle.ctr_pool.specs.Frames.{frame_of, has_page, page_of, page_shown, since_in, IsOldest, AreClean, dirty_count}

-- the frames, and how many there may be
pub record Pooled : Type 0 where
  pub frames : List Frame
  pub most : ℕ

-- how many frames there may be that have no change to be saved
abbrev pub unchanged : Pooled → ℕ
unchanged p = p.most - dirty_count p.frames

-- what a frame has is held where it is saved, and else may be saved
abbrev pub IsHeld : {B : Type 0} → Ghosts B → B → ℕ → PageHeld → Option ℕ → Type 0
IsHeld g b p v None = v ≡ g.held b p
IsHeld g b p v (Some since) = g.may_be_saved b p since v

-- The pool over a backing on which nothing is pending: what each page's frame has is held, or may
-- be saved.
pub record IsOver {B : Type 0} (g : Ghosts B) (fs : List Frame) (b : B) : Type 0 where
  pub at_rest : g.rests b
  pub held : (p : ℕ) (f : Frame) → frame_of p fs ≡ Some f → IsHeld g b p (page_of f) f.since

-- each page is as it was: what the backing holds, with the changes since
abbrev pub ShowsSamePages : {B : Type 0} → Ghosts B → List Frame → B → List Frame → B → Type 0
ShowsSamePages g old a new b =
    (q : ℕ) → page_shown new q (g.held b q) ≡ page_shown old q (g.held a q)

-- over the backing still, where it was, with each page as it was
pub record StaysOver {B : Type 0} (g : Ghosts B) (old : List Frame) (a : B) (new : List Frame)
    (b : B) : Type 0 where
  pub shows : ShowsSamePages g old a new b
  pub over : IsOver g new b

-- What a call does below the pool: it only loads and saves.
pub record WorksBelow {B T : Type 0} (g : Ghosts B) (a b : B) (result : Result T StoreFault)
    : Type 0 where
  pub keeps : g.keeps a b
  pub goes : IsTrue g.tells → g.rests a → g.leaves_between a b
  pub moves : IsTrue g.tells → g.rests a → OnOk result (g.may_change a b)
  pub fails : IsTrue g.tells → g.rests a → IfErr result (g.fails a b)
  pub faults : HasFault Fault (g.faults_of a) (g.faults_of b) result

-- the page is saved that is changed the longest, and no other
abbrev pub OldestSaved : Pooled → Pooled → Type 0
OldestSaved old new = (p : ℕ) × (s : ℕ) × IsOldest p s old.frames
    × ((q : ℕ) → since_in q new.frames ≡ (if p == q then None else since_in q old.frames))

-- What gives room for a page: none is saved where a frame has nothing to save, and else the oldest.
pub record SavesForRoom (old new : Pooled) : Type 0 where
  pub kept : 0 < unchanged old → (q : ℕ) → since_in q new.frames ≡ since_in q old.frames
  pub oldest : unchanged old ≡ 0 → OldestSaved old new

-- a page is there now, and no other one that wasn't
abbrev pub AddsPage : ℕ → List Frame → List Frame → Type 0
AddsPage p old new = (has_page p new ≡ true)
    × ((q : ℕ) → q ≢ p → has_page q old ≡ false → has_page q new ≡ false)

-- A page is there now, and no other one that wasn't. It was, and nothing changed; or it was
-- loaded, into a frame for which at most the oldest page was saved.
pub record BringsIn (p : ℕ) (old new : Pooled) : Type 0 where
  pub adds : AddsPage p old.frames new.frames
  pub most : new.most ≡ old.most
  pub hit : has_page p old.frames ≡ true → new ≡ old
  pub miss : has_page p old.frames ≡ false → SavesForRoom old new

-- One page is saved, which is changed the longest, and one frame more has nothing to be saved;
-- where none is changed nothing is, and no frame has.
pub record SavesOldest (old new : Pooled) (wrote : Bool) : Type 0 where
  pub none : wrote ≡ false → AreClean old.frames × (new ≡ old)
  pub all : wrote ≡ false → 8 ≤ unchanged old
  pub most : new.most ≡ old.most
  pub one : wrote ≡ true → OldestSaved old new
  pub more : wrote ≡ true → unchanged new ≡ unchanged old + 1
