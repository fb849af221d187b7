-- What is shown of an area: the chains of names and rows, and the rows of an image.
use Rattle.std.specs.Prelude.{◌≡◌, ℕ, Bool}
use Rattle.ctr_area.specs.Areas.{Area}
use Rattle.ctr_area.specs.Images.{versions_in, image_rows}

-- Two areas show the same, whoever is committed.
abbrev pub ShowTheSame : Area → Area → Type 0
ShowTheSame old new = (committed : ℕ → Bool)
    → (versions_in committed new ≡ versions_in committed old)
    × (image_rows committed new ≡ image_rows committed old)
