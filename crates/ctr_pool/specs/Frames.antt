-- The frames of a pool: which page is in which, with what, and since when it is changed.
use Rattle.std.specs.Prelude.{◌≡◌, ◌==◌, ◌+◌, ◌≤◌, ℕ, Bool, List, [], ◌∷◌, Option, None, Some, is_some, if◌then◌else◌}
use Rattle.ctr_rec.specs.declared.record.Overlay.{Overlay}
use Rattle.ctr_pool.specs.declared.frame.Frame.{Frame}
use Rattle.ctr_pool.specs.Pages.{PageHeld, overlaid_by}

-- the frame of a page, where one has it
abbrev pub frame_of : ℕ → List Frame → Option Frame
frame_of p [] = None
frame_of p (f ∷ fs) = if f.page == p then Some f else frame_of p fs

-- some frame has the page
abbrev pub has_page : ℕ → List Frame → Bool
has_page p fs = is_some (frame_of p fs)

-- what a frame has of its page
abbrev pub page_of : Frame → PageHeld
page_of f = record { lsn = f.lsn; body = f.body }

-- what a frame has, or where there is none what is held below
abbrev pub kept_or : PageHeld → Option Frame → PageHeld
kept_or h None = h
kept_or h (Some f) = page_of f

-- a page as the pool has it: its frame's, or what is held below
abbrev pub page_shown : List Frame → ℕ → PageHeld → PageHeld
page_shown fs p h = kept_or h (frame_of p fs)

-- the LSN of a frame's first change that isn't saved, where it has one
abbrev pub change_of : Option Frame → Option ℕ
change_of None = None
change_of (Some f) = f.since

-- The LSN of a page's first change that isn't saved, if a frame has the page changed.
abbrev pub since_in : ℕ → List Frame → Option ℕ
since_in p fs = change_of (frame_of p fs)

-- a frame has changes that aren't saved
abbrev pub is_dirty : Frame → Bool
is_dirty f = is_some f.since

-- How many of the frames have changes that aren't saved.
abbrev pub dirty_count : List Frame → ℕ
dirty_count [] = 0
dirty_count (f ∷ fs) = (if is_dirty f then 1 else 0) + dirty_count fs

-- the first change that isn't saved, after one at an LSN
abbrev pub since_then : Option ℕ → ℕ → Option ℕ
since_then None lsn = Some lsn
since_then (Some s) lsn = Some s

-- a frame after a change
abbrev pub after_change : Overlay → ℕ → Frame → Frame
after_change o lsn f = record {
  page = f.page;
  lsn = lsn;
  since = since_then f.since lsn;
  body = overlaid_by o f.body;
}

-- a frame whose changes are saved
abbrev pub after_save : Frame → Frame
after_save f = record { page = f.page; lsn = f.lsn; since = None; body = f.body }

-- One page's first change that isn't saved has the least LSN: no other page's is less.
pub record IsOldest (p since : ℕ) (fs : List Frame) : Type 0 where
  pub some : since_in p fs ≡ Some since
  pub least : (q s : ℕ) → since_in q fs ≡ Some s → since ≤ s

-- nothing is to be saved
abbrev pub AreClean : List Frame → Type 0
AreClean fs = (q : ℕ) → since_in q fs ≡ None
