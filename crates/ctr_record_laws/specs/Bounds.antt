-- What every area has that is read from pages.
use Rattle.std.specs.Prelude.{◌≡◌, ℕ, ◌≤◌, []}
use Rattle.ctr_area.specs.Areas.{Title, no_pages, Area}

-- of an entry that is free nothing need be said
abbrev pub no_title : Title
no_title = record { state = 0; creator = 0; dropper = 0; name = []; columns = [] }

-- The catalog has 32 entries, behind which all are free and say nothing; a free one has no page,
-- and a page has room for at most 170 slots or version entries.
pub record IsInBounds (area : Area) : Type 0 where
  pub titles : (e : ℕ) → 32 ≤ e → area.title e ≡ no_title
  pub entries : (e : ℕ) → 32 ≤ e → area.firsts e ≡ no_pages
  pub free : (e : ℕ) → (area.title e).state ≡ 0 → area.firsts e ≡ no_pages
  pub rooms : (p : ℕ) → area.room p ≤ 170
