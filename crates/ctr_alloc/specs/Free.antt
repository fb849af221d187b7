-- Which pages are free, by which are allocated. The pages 0, 1 and 2 never are, though their bits
-- are 0.
use Rattle.std.specs.Prelude.{◌≡◌, ℕ, ◌==◌, ◌<◌, ◌≤◌, Bool, true, false, List, slice_index, if◌then◌else◌}
use Rattle.std.specs.Int.Bits.{bit_or}
use Rattle.ctr_walk.specs.base_growing_TheConstants.{MOST_PAGES}
use Rattle.ctr_actions.specs.area_Reading.{is_taken}
use Rattle.ctr_alloc.specs.declared.search.NextFree.{NextFree}
use Rattle.ctr_alloc.specs.declared.search.NextFree.TheVariants.{Page, Grow, Full}

-- No page below this one is free.
abbrev pub AreTakenBelow : ℕ → (ℕ → Bool) → Type 0
AreTakenBelow p taken = (q : ℕ) → 3 ≤ q → q < p → taken q ≡ true

-- A page of the file is free: one behind the catalog that isn't taken.
abbrev pub IsFree : (ℕ → Bool) → ℕ → Type 0
IsFree taken p = (3 ≤ p) × (taken p ≡ false)

-- Where a page can be had: the lowest free one; or by growth, exactly where no counted page is
-- free and fewer than the most are counted; or nowhere, exactly where none is free and the most
-- are counted.
abbrev pub IsNextFree : ℕ → (ℕ → Bool) → NextFree → Type 0
IsNextFree counted taken (Page p) = IsFree taken p × (p < counted) × AreTakenBelow p taken
IsNextFree counted taken Grow = AreTakenBelow counted taken × (counted < MOST_PAGES)
IsNextFree counted taken Full = AreTakenBelow MOST_PAGES taken × (MOST_PAGES ≤ counted)

-- Whatever the bits say: the page is a counted one behind the catalog; or more can be counted; or
-- not.
abbrev pub MayBeNext : ℕ → NextFree → Type 0
MayBeNext counted (Page p) = (3 ≤ p) × (p < counted)
MayBeNext counted Grow = counted < MOST_PAGES
MayBeNext counted Full = MOST_PAGES ≤ counted

-- ---- bytes

-- a page is allocated, by the bytes of page 0
abbrev pub taken_in : List ℕ → ℕ → Bool
taken_in page q = is_taken q page

-- a byte of page 0, in which the pages 0, 1 and 2 count as allocated
abbrev pub marks_in : List ℕ → ℕ → ℕ
marks_in page at = if at == 0 then bit_or (slice_index page at) 7 else slice_index page at

-- in the bytes before an end no bit is 0
abbrev pub AreFullBelow : List ℕ → ℕ → Type 0
AreFullBelow page end = (at : ℕ) → at < end → marks_in page at ≡ 255
