-- Pages that are cleared in the file of pages.
use Rattle.std.specs.Prelude.{◌≡◌, ◌≤◌, ◌*◌, ◌-◌, ℕ, ◌++◌, length, take, drop}
use Rattle.ctr_types.specs.declared.file.File.TheVariants.{Pages}
use Rattle.ctr_disk.specs.Image.{Image, OtherFilesStay}
use Rattle.ctr_redo.specs.home_Blocks.{zero_bytes}

-- The first bytes of the file of pages are as they were, so many of them, and the other files; and
-- it isn't shorter.
pub record KeepsPageBytes (n : ℕ) (old new : Image) : Type 0 where
  pub others : OtherFilesStay Pages old new
  pub front : take n new.pages ≡ take n old.pages
  pub no_shorter : length old.pages ≤ length new.pages

-- zeros stand over the homes of the pages from one to below another, and all else is as it was
pub record AreCleared (from to : ℕ) (old new : Image) : Type 0 where
  pub others : OtherFilesStay Pages old new
  pub pages : new.pages
      ≡ take (8256 * from) old.pages ++ zero_bytes (8256 * (to - from))
      ++ drop (8256 * to) old.pages
