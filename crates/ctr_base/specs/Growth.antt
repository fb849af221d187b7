-- How more pages are counted, below the pool.
use Rattle.std.specs.Prelude.{◌≡◌, ◌⊎◌, ℕ, ◌+◌, ◌*◌, ◌≤◌, ◌<◌, Result, OnOk, OnErr}
use Rattle.ctr_disk.specs.declared.disk.Disk.{Ghosts}
use Rattle.ctr_disk.specs.Image.{Image}
use Rattle.ctr_redo.specs.home_Root.{Root}
use Rattle.ctr_disk.specs.Device.{LeavesOnly}
use Rattle.ctr_redo.specs.home_Block_TheVariants.{Root as RootBlock}
use Rattle.ctr_redo.specs.home_Blocks.{zero_bytes}
use Rattle.ctr_redo.specs.home_Roots.{root_block}
use Rattle.ctr_redo.specs.home_Writing.{IsOldOrNewValue, IsNewValue}
use Rattle.ctr_redo.specs.States.{State, state_of, counting, grown, page_limit, page_at}
use Rattle.ctr_redo.specs.Images.{FoldsGrown}
use Rattle.ctr_base.specs.declared.base.Base.{Base}
use Rattle.ctr_base.specs.Base.{stored_of, now_of, home_of, MayPut, StandsQuiet}
use Rattle.ctr_redo.specs.ctr_pool.Below.{HoldsStill}
use Rattle.ctr_disk.specs.declared.fault.StoreFault.{StoreFault}
use Rattle.ctr_base.specs.Extent.{KeepsPageBytes, AreCleared}

-- Homes behind the counted pages are being cleared, or they are, and the root has its old value or
-- the one that counts them.
abbrev pub IsGrowing : ℕ → Root → Image → Image → Type 0
IsGrowing from more old new = KeepsPageBytes (8256 * from) old new
    ⊎ ((mid : Image) × AreCleared from more.pages old mid
    × IsOldOrNewValue RootBlock (root_block more) mid new)

-- The pages by which a file grows are cleared, and then the root counts them.
abbrev pub HasGrown : ℕ → Root → Image → Image → Type 0
HasGrown from more old new = (mid : Image)
    × AreCleared from more.pages old mid × IsNewValue RootBlock (root_block more) mid new

-- the root that counts more pages, and says the rest as before
abbrev pub grown_root : Root → Root
grown_root r = record r { stamp = r.stamp + 1; pages = grown r.pages }

-- At each moment of a growth a crash leaves what was hardened, with the old count of pages or the
-- new one.
abbrev pub LeavesGrown : {D O : Type 0} → Ghosts D → Base D O → Base D O → Type 0
LeavesGrown g a b = LeavesOnly g a.disk b.disk (FoldsGrown (state_of (stored_of g a)))

-- More pages are counted; the pages at home, the records and the log are as they were.
pub record GrowsBase {D O : Type 0} (g : Ghosts D) (a b : Base D O) : Type 0 where
  pub root : b.root ≡ grown_root a.root
  pub log : b.log ≡ a.log
  pub homes : (q : ℕ) → home_of g b q ≡ home_of g a q
  pub records : (stored_of g b).records ≡ (stored_of g a).records
  pub hardened :
      state_of (stored_of g b) ≡ counting (grown a.root.pages) (state_of (stored_of g a))
  pub now : state_of (now_of g b) ≡ counting (grown a.root.pages) (state_of (now_of g a))

-- So it grows, and stands over the same pages, of which may be saved what might be.
pub record GrowsOver {D O : Type 0} (first : Image) (g : Ghosts D) (a b : Base D O) : Type 0 where
  pub base : GrowsBase g a b
  pub rests : StandsQuiet first g b
  pub holds : HoldsStill (home_of g) (MayPut first g) a b

-- All but the disk and the root is as it was. The root counts more pages behind an Ok, and else is
-- the same.
abbrev pub CountsMore : {D O T : Type 0} → Base D O → Base D O → Result T StoreFault → Type 0
CountsMore a b result = (b ≡ record a { disk = b.disk; root = b.root })
    × OnOk result (b.root.pages ≡ grown a.root.pages) × OnErr result (b.root ≡ a.root)

-- each page of a state from one to below another has nothing
abbrev pub AreBlank : ℕ → ℕ → State → Type 0
AreBlank from to s =
    (p : ℕ) → from ≤ p → p < to → p < page_limit → page_at p s.pages ≡ zero_bytes 4096
