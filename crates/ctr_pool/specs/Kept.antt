-- The frames, their places and the ages as they are kept.
use Rattle.std.specs.Prelude.{◌≡◌, ℕ, ◌<◌, ◌≤◌, List, [], ◌∷◌, Option, None, Some, nat_eq, length, slice_index_or}
use Rattle.std.specs.Map.{lookup}
use Rattle.ctr_pool.specs.declared.frame.Frame.{Frame}

-- the frames, and how many more there is room for
pub record FrameList : Type 0 where
  pub frames : List Frame
  pub spare : ℕ

-- pages with the places of their frames, and how many more there is room for
pub record PlaceList : Type 0 where
  pub entries : List (ℕ × ℕ)
  pub spare : ℕ

-- the place of a page's frame, where it has one
abbrev pub place_of : ℕ → List (ℕ × ℕ) → Option ℕ
place_of p es = lookup (nat_eq p) es

-- the pages listed are above a page
abbrev pub AllAbove : ℕ → List (ℕ × ℕ) → Type 0
AllAbove p [] = Unit {0}
AllAbove p (e ∷ es) = (p < e.0) × AllAbove p es

-- each page is above the one before
abbrev pub AreOrdered : List (ℕ × ℕ) → Type 0
AreOrdered [] = Unit {0}
AreOrdered (e ∷ es) = AllAbove e.0 es × AreOrdered es

-- Each frame's page has the frame's place, and a page that has a place is the page of the frame
-- there.
pub record ArePlaced (es : List (ℕ × ℕ)) (fs : List Frame) : Type 0 where
  pub each : (at : ℕ) (d : Frame) → at < length fs
      → place_of (slice_index_or fs at d).page es ≡ Some at
  pub inside : (p at : ℕ) → place_of p es ≡ Some at → at < length fs
  pub page : (p at : ℕ) (d : Frame) → place_of p es ≡ Some at → (slice_index_or fs at d).page ≡ p

-- Changed pages with the LSNs of their first changes, and how many more there is room for.
pub record AgeList : Type 0 where
  pub entries : List (ℕ × ℕ)
  pub spare : ℕ

-- the first change of a page, where it has one
abbrev pub age_of : ℕ → List (ℕ × ℕ) → Option ℕ
age_of p es = lookup (nat_eq p) es

-- the one that is first
abbrev pub first_age : List (ℕ × ℕ) → Option (ℕ × ℕ)
first_age [] = None
first_age (e ∷ es) = Some e

-- All pages listed were changed first at an LSN or later.
abbrev pub AllSince : ℕ → List (ℕ × ℕ) → Type 0
AllSince s [] = Unit {0}
AllSince s (e ∷ es) = (s ≤ e.1) × AllSince s es

-- the oldest are first, and each page comes once
abbrev pub AreByAge : List (ℕ × ℕ) → Type 0
AreByAge [] = Unit {0}
AreByAge (e ∷ es) = AllSince e.1 es × (age_of e.0 es ≡ None) × AreByAge es
