-- What the opening of a disk finds.
use Rattle.std.specs.Prelude.{◌≡◌, ◌⊎◌, ◌*◌, ◌≤◌, ℕ, max, List, [], ◌∷◌, length, Option, None, Some, Err}
use Rattle.ctr_types.specs.declared.file.File.TheVariants.{Pages}
use Rattle.ctr_redo.specs.home_Root.{Root}
use Rattle.ctr_disk.specs.declared.fault.StoreFault.{StoreFault}
use Rattle.ctr_disk.specs.Image.{Image, content}
use Rattle.ctr_redo.specs.home_Block_TheVariants.{Root as RootBlock}
use Rattle.ctr_redo.specs.home_Check.{Check}
use Rattle.ctr_redo.specs.home_Blocks.{value_of}
use Rattle.ctr_redo.specs.home_Checks.{check_of, judged}
use Rattle.ctr_redo.specs.home_Roots.{SaysRoot, ReadsRoot}

-- the file of pages has all that are counted, at least
abbrev pub size_check : ℕ → List ℕ → Check
size_check pages bytes = check_of 0 (max (length bytes) (pages * 8256)) (length bytes)

-- the root that an image says, whose file of pages has all that are counted; none where no root
-- home is open
abbrev pub FindsRoot : Image → Option Root → Type 0
FindsRoot image None = value_of RootBlock image ≡ None
FindsRoot image (Some r) = SaysRoot (value_of RootBlock image) r
    × (8256 * r.pages ≤ length (content Pages image))

-- the first check that fails is one of the root, or behind these that of the file of pages
abbrev pub IsRootDamage : Image → StoreFault → Type 0
IsRootDamage image e = ReadsRoot image (Err e)
    ⊎ ((r : Root) × SaysRoot (value_of RootBlock image) r
    × (judged Pages (size_check r.pages (content Pages image) ∷ []) ≡ Err e))
