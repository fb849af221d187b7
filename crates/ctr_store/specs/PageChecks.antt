-- The checks of the pages that a log's records are on, in order of the records.
use Rattle.std.specs.Prelude.{◌≡◌, ◌≢◌, ◌⊎◌, ◌+◌, ◌-◌, ◌<◌, ◌≤◌, ℕ, true, false, List, [], ◌∷◌, length, Option, None, Some, IsTrue, Result, OnOk, IfErr, MatchResult}
use Rattle.ctr_types.specs.Damage.{damage_of}
use Rattle.ctr_types.specs.declared.file.File.TheVariants.{Pages}
use Rattle.ctr_disk.specs.declared.disk.Disk.{Ghosts}
use Rattle.ctr_disk.specs.Image.{Image}
use Rattle.ctr_disk.specs.declared.fault.StoreFault.{StoreFault}
use Rattle.ctr_disk.specs.declared.fault.StoreFault.TheVariants.{Damaged}
use Rattle.ctr_base.specs.ctr_home.declared.block.Block.TheVariants.{Page}
use Rattle.ctr_base.specs.ctr_home.Blocks.{value_place}
use Rattle.ctr_base.specs.ctr_home.Reading.{IsFaultOr, IsMisnumbered}
use Rattle.ctr_rec.specs.declared.record.Overlay.{Overlay}
use Rattle.ctr_rec.specs.declared.record.Record.{Record}
use Rattle.ctr_base.specs.pool_Frame.{Frame}
use Rattle.ctr_base.specs.pool_Frames.{frame_of, has_page, page_shown}
use Rattle.ctr_base.specs.redo_Overlaid.{overlay_of}
use Rattle.ctr_base.specs.Homes.{FailsHome, PassesHome}
use Rattle.ctr_base.specs.Base.{home_of, StandsQuiet}
use Rattle.ctr_store.specs.declared.parts.Parts.{Parts}

-- the page of an overlay passes its checks at home, where the next LSN is this
abbrev pub PagePasses : ℕ → Image → Option Overlay → Type 0
PagePasses next image None = Unit {0}
PagePasses next image (Some o) = PassesHome next o.page image

-- its first check that fails is this one
abbrev pub PageFails : ℕ → Image → Option Overlay → StoreFault → Type 0
PageFails next image None e = ⊥
PageFails next image (Some o) e = FailsHome next o.page image e

-- the page of each of these records passes
abbrev pub PagesPass : ℕ → Image → List Record → Type 0
PagesPass next image [] = Unit {0}
PagesPass next image (r ∷ rs) = PagePasses next image (overlay_of r) × PagesPass next image rs

-- the first check that fails, in order of the records, is this one
abbrev pub FirstPageFails : ℕ → Image → List Record → StoreFault → Type 0
FirstPageFails next image [] e = ⊥
FirstPageFails next image (r ∷ rs) e = PageFails next image (overlay_of r) e
    ⊎ (PagePasses next image (overlay_of r) × FirstPageFails next image rs e)

-- ---- one page that is brought into a frame

-- the number of the next record
abbrev pub next_in : {D O : Type 0} → Parts D O → ℕ
next_in s = s.base.log.first + length s.base.log.buffered

-- the page is at home in both as it was
abbrev pub IsHomeStill : {D O : Type 0} → Ghosts D → ℕ → Parts D O → Parts D O → Type 0
IsHomeStill g p s t = home_of g t.base p ≡ home_of g s.base p

-- A frame has a page with an LSN that isn't below the next one: damage says so, in the home that
-- the page's value stands in.
pub record IsHighFrame {D O : Type 0} (g : Ghosts D) (p : ℕ) (s : Parts D O) (e : StoreFault)
    : Type 0 where
  pub frame : Frame
  pub there : frame_of p s.pool.frames ≡ Some frame
  pub high : next_in s ≤ frame.lsn
  pub is : IsTrue g.tells
      → (let home = value_place (Page p) (g.reads s.base.disk) in
      e ≡ Damaged (damage_of Pages (home + 5) (next_in s - 1) frame.lsn))

-- A page that no frame had was read at home: it passes its checks; or one fails, that of its number
-- or behind it that of its stamp.
abbrev pub ReadsPage : {D O T : Type 0} → Image → Ghosts D → ℕ → Parts D O → Parts D O
    → Result T StoreFault → Type 0
ReadsPage first g p s t result =
    let image = g.reads t.base.disk in
    MatchResult result (λ _. PassesHome (next_in t) p image × IsHomeStill g p s t)
    (IsFaultOr (λ e. StandsQuiet first g t.base
    × (IsMisnumbered (Page p) image e ⊎ (FailsHome (next_in t) p image e × IsHomeStill g p s t))))

-- What the bringing of a page into a frame finds: where a frame had it, it fails only by an LSN
-- that isn't below the next one; where none had it, and it is counted, it is read at home. No other
-- page gets a frame.
pub record FindsPage {D O T : Type 0} (first : Image) (g : Ghosts D) (p : ℕ) (s t : Parts D O)
    (result : Result T StoreFault) : Type 0 where
  pub hit : has_page p s.pool.frames ≡ true
      → IfErr result (IsFaultOr
      (λ e. next_in t ≤ (page_shown s.pool.frames p (home_of g s.base p)).lsn))
  pub miss : has_page p s.pool.frames ≡ false → p < t.base.root.pages → 1 ≤ next_in t
      → ReadsPage first g p s t result
  pub others : OnOk result
      ((q : ℕ) → q ≢ p → has_page q s.pool.frames ≡ false → has_page q t.pool.frames ≡ false)
