-- Pages as they stand at home: their checks, and what an opening leaves of them.
use Rattle.std.specs.Prelude.{◌≡◌, ◌⊎◌, ◌+◌, ◌-◌, ◌<◌, ◌≤◌, ℕ, min, List, [], ◌∷◌, Option, Some, Err}
use Rattle.ctr_types.specs.declared.file.File.TheVariants.{Pages}
use Rattle.ctr_disk.specs.Image.{Image}
use Rattle.ctr_redo.specs.home_Root.{Root}
use Rattle.ctr_disk.specs.declared.fault.StoreFault.{StoreFault}
use Rattle.ctr_redo.specs.home_Block_TheVariants.{Page, Root as RootBlock}
use Rattle.ctr_redo.specs.home_Check.{Check}
use Rattle.ctr_redo.specs.home_Blocks.{BlockValue, value_of, value_place, page_with}
use Rattle.ctr_redo.specs.home_Checks.{check_of, judged}
use Rattle.ctr_redo.specs.home_Reading.{number_check}
use Rattle.ctr_redo.specs.home_Roots.{SaysRoot}

-- The checks of a value of a page whose home begins at a place, in order: its number is the page's,
-- and its stamp is below the next LSN.
abbrev pub home_checks : ℕ → ℕ → ℕ → BlockValue → List Check
home_checks next p home v = number_check (Page p) home v
    ∷ check_of (home + 5) (min v.stamp (next - 1)) v.stamp ∷ []

-- The first check of a page of an image that fails is this one: of its number, or where that is
-- right of its stamp. It is told in the home that the page's value stands in.
abbrev pub FailsHome : ℕ → ℕ → Image → StoreFault → Type 0
FailsHome next p image e = (v : BlockValue) × (value_of (Page p) image ≡ Some v)
    × (judged Pages (home_checks next p (value_place (Page p) image) v) ≡ Err e)

-- both checks of a page of an image pass; one without an open home has none
abbrev pub PassesHome : ℕ → ℕ → Image → Type 0
PassesHome next p image =
    (v : BlockValue) → value_of (Page p) image ≡ Some v → (v.number ≡ p) × (v.stamp < next)

-- where the home of a page's value begins in an image, and the stamp of the value
abbrev pub FindsValue : ℕ → Image → ℕ × ℕ → Type 0
FindsValue p image found = (found.0 ≡ value_place (Page p) image)
    × (found.1 ≡ (page_with (value_of (Page p) image)).lsn)

-- A page was written home since it had a value: it has its number there, and a greater stamp.
pub record IsWrittenSince (p : ℕ) (first now : Option BlockValue) : Type 0 where
  pub value : BlockValue
  pub is : now ≡ Some value
  pub number : value.number ≡ p
  pub later : (page_with first).lsn < value.stamp

-- the value of a page is the one of then, and stands in the home of then
pub record HasSameHome (p : ℕ) (first now : Image) : Type 0 where
  pub value : value_of (Page p) now ≡ value_of (Page p) first
  pub place : value_place (Page p) now ≡ value_place (Page p) first

-- A page has the value that it had at first, in the same home, or was written since.
abbrev pub IsSince : ℕ → Image → Image → Type 0
IsSince p first now = HasSameHome p first now
    ⊎ IsWrittenSince p (value_of (Page p) first) (value_of (Page p) now)

-- The pages that the first image counts are counted, and each is at home as there, or was written
-- since.
pub record HomesSince (first : Image) (counted : ℕ) (image : Image) : Type 0 where
  pub more : (r : Root) → SaysRoot (value_of RootBlock first) r → r.pages ≤ counted
  pub homes : (r : Root) → SaysRoot (value_of RootBlock first) r → (p : ℕ) → p < r.pages
      → IsSince p first image
