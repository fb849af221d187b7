-- The numbers of transactions of a run, and the commit numbers that they got.
use Rattle.std.specs.Prelude.{ℕ, ◌-◌, nat_lt, List, [], ◌∷◌, Option, Some, None, zero, suc, if◌then◌else◌}
use Rattle.ctr_snap.specs.Seeing.{has}
use Rattle.ctr_versions.specs.Xids.{place_from}

-- The first number that is drawn in the run, the next one, those that asked for their commit, in
-- order, and for how many more numbers and commits there is room.
pub record NumbersHeld : Type 0 where
  pub first : ℕ
  pub next : ℕ
  pub commits : List ℕ
  pub draws : ℕ
  pub asks : ℕ

-- the commit number of a transaction: its place among those that asked, where it is one of them
abbrev pub number_asked : ℕ → List ℕ → Option ℕ
number_asked x commits = if has x commits then Some (place_from 1 x commits) else None

-- what stands at a place, where there is one
abbrev pub kept_at : List (Option ℕ) → ℕ → Option ℕ
kept_at [] n = None
kept_at (k ∷ ks) zero = k
kept_at (k ∷ ks) (suc n) = kept_at ks n

-- the number that is kept of a transaction, from the first of the run on
abbrev pub kept_number : ℕ → List (Option ℕ) → ℕ → Option ℕ
kept_number first numbers x = if nat_lt x first then None else kept_at numbers (x - first)
