-- The version entries of a page: which is free, and what is wrong with one.
use Rattle.std.specs.Prelude.{ℕ, ◌==◌, Bool, not, List, Option, ⊤, Result}
use Rattle.ctr_types.specs.declared.value.Kind.{Kind}
use Rattle.ctr_rec.specs.declared.decoding.BadRecord.{BadRecord}
use Rattle.ctr_page.specs.Places.{kept_size, room_for}
use Rattle.ctr_page.specs.Reading.{older_at}
use Rattle.ctr_page.specs.Columns.{kinds_width, kept_start}
use Rattle.ctr_page.specs.Damage.{kept_check}
use Rattle.ctr_page.specs.Searching.{EndsSearch}
use Rattle.ctr_passed.specs.area_Areas.{Area}

-- what is wrong with a version entry, by its number on a page
abbrev pub checks_version : List Kind → ℕ → List ℕ → ℕ → Result ⊤ BadRecord
checks_version kinds counted page n = kept_check kinds counted (kept_start kinds n) page

-- whether a version entry of rows so wide isn't used, by its number on a page
abbrev pub is_free_version : ℕ → List ℕ → ℕ → Bool
is_free_version w page n = (older_at w n page).used == 0

-- where the search through the version entries of a page for a free one ends
abbrev pub EndsFree : List Kind → ℕ → List ℕ → Result (Option ℕ) BadRecord → Type 0
EndsFree kinds counted page result =
    EndsSearch (checks_version kinds counted page) (is_free_version (kinds_width kinds) page)
    0 (room_for (kept_size (kinds_width kinds))) result

-- whether one isn't used, in the area
abbrev pub is_free_older : Area → ℕ → ℕ → Bool
is_free_older area p n = not (area.older (record { page = p; slot = n })).used
