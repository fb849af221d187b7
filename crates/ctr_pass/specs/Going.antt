-- What a turn of the cleaner did beside sessions, and where.
use Rattle.std.specs.Prelude.{◌≡◌, ℕ, Bool, true}
use Rattle.ctr_walk.specs.redo_States.{State}
use Rattle.ctr_actions.specs.Sites.{site_of}
use Rattle.ctr_cleaner.specs.Turning.{Heeded, TurnsAt}
use Rattle.ctr_cleaner.specs.cursor_Position.{Position}
use Rattle.ctr_cleaner.specs.cursor_Standing.{IsPosition, IsCountedPosition}
use Rattle.ctr_pass.specs.declared.going.Went.{Went}

-- A turn was taken at a position of the state, and this is what it did there.
abbrev pub WentAs : Heeded → State → State → Went → Type 0
WentAs h s t w = IsPosition w.from (site_of s) × TurnsAt h w.from s t w.did

-- The position at which a turn is taken is the one that was given, where that stayed; and what it
-- names is there.
abbrev pub IsFromPosition : Bool → ℕ → Position → Went → Type 0
IsFromPosition stayed counted at w =
    (stayed ≡ true → w.from ≡ at) × IsCountedPosition counted w.from
