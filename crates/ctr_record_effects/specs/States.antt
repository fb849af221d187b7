-- What stands in the pages of a state.
use Rattle.std.specs.Prelude.{◌≡◌, ℕ, List, length}
use Rattle.ctr_redo.specs.States.{State, page_at}
use Rattle.ctr_area.specs.ctr_page.declared.table.TheConstants.{PAGE_SIZE}
use Rattle.ctr_area.specs.Areas.{Area}
use Rattle.ctr_area.specs.Reading.{area_of}

-- the pages of a state, by number
abbrev pub pages_in : State → ℕ → List ℕ
pages_in s p = page_at p s.pages

-- The area that the pages of a state say.
abbrev pub area_in : State → Area
area_in s = area_of (pages_in s)

-- The page is there, whole.
abbrev pub IsWholePage : ℕ → State → Type 0
IsWholePage p s = length (pages_in s p) ≡ PAGE_SIZE
