-- A search for a free version entry along the chain of version pages of a table, and what it finds.
use Rattle.std.specs.Prelude.{◌≡◌, ℕ, false, true, List, Option, None, Some, Result}
use Rattle.ctr_page.specs.declared.checks.Chain.TheVariants.{Versions}
use Rattle.ctr_page.specs.declared.walk.BadChain.{BadChain}
use Rattle.ctr_page.specs.declared.rows.Place.{Place}
use Rattle.ctr_page.specs.Places.{kept_size, room_for}
use Rattle.ctr_page.specs.Columns.{kinds_width}
use Rattle.ctr_passed.specs.area_Areas.{Area}
use Rattle.ctr_passed.specs.area_Chains.{older_places}
use Rattle.ctr_passed.specs.area_Checked.{kinds_at}
use Rattle.ctr_passed.specs.area_Sound.{IsAmong}
use Rattle.ctr_walk.specs.Tables.{EndsChain}
use Rattle.ctr_pvs.specs.Entries.{EndsFree}

-- Where the search ends: at the damage of the table's entry; or the entry passes, and it ends along
-- the chain of its version pages.
abbrev pub EndsVersions : ℕ → (ℕ → List ℕ) → ℕ → Result (Option Place) BadChain → Type 0
EndsVersions counted pages e result = EndsChain counted pages (Versions e) EndsFree result

-- ---- in the area

-- how many version entries a page of a table has
abbrev pub entries_on_page : Area → ℕ → ℕ
entries_on_page area e = room_for (kept_size (kinds_width (kinds_at area e)))

-- The search tells a version entry of the table that isn't used; or all of them are used.
abbrev pub FindsFreeEntry : Area → ℕ → Option Place → Type 0
FindsFreeEntry area e (Some at) =
    IsAmong at (older_places area e) × ((area.older at).used ≡ false)
FindsFreeEntry area e None =
    (at : Place) → IsAmong at (older_places area e) → (area.older at).used ≡ true
