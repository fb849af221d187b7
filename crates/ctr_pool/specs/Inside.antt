-- What the fields of a pool stand for, and what they keep.
use Rattle.std.specs.Prelude.{◌≡◌, ℕ, ◌+◌, ◌≤◌, length}
use Rattle.ctr_pool.specs.declared.pool.Pool.TheInside.{Inside}
use Rattle.ctr_pool.specs.Frames.{since_in, dirty_count}
use Rattle.ctr_pool.specs.Kept.{age_of}
use Rattle.ctr_pool.specs.Over.{Pooled}

-- the frames, and how many there may be: with those that there is room for
abbrev pub pooled_in : Inside → Pooled
pooled_in a =
    record { frames = a.frames.frames; most = length a.frames.frames + a.frames.spare }

-- The ages are those of the changed pages, and there is room for one of each frame.
pub record IsPool (a : Inside) : Type 0 where
  pub ages_are : (p : ℕ) → age_of p a.ages.entries ≡ since_in p a.frames.frames
  pub count : length a.ages.entries ≡ dirty_count a.frames.frames
  pub some : 8 ≤ length a.frames.frames + a.frames.spare
  pub ages_room : length a.frames.frames + a.frames.spare ≤ length a.ages.entries + a.ages.spare
