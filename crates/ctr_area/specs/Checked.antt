-- Pages on which no check fails, wherever a chain leads.
use Rattle.std.specs.Prelude.{◌≡◌, ℕ, ◌+◌, ◌*◌, ◌/◌, ◌%◌, ◌<◌, List, [], ◌∷◌, ⊤, Result, Ok}
use Rattle.std.specs.List.{AllByRecursion}
use Rattle.ctr_page.specs.types_Kind.{Kind}
use Rattle.ctr_page.specs.ctr_rec.declared.decoding.BadRecord.{BadRecord}
use Rattle.ctr_page.specs.declared.checks.Chain.{Chain}
use Rattle.ctr_page.specs.declared.checks.Chain.TheVariants.{Rows, Versions}
use Rattle.ctr_page.specs.declared.rows.Place.{Place}
use Rattle.ctr_page.specs.declared.table.TheConstants.{ENTRY_SIZE}
use Rattle.ctr_page.specs.Columns.{kinds_of, slot_start, kept_start}
use Rattle.ctr_page.specs.Damage.{header_check, slot_check, kept_check, entry_check}
use Rattle.ctr_area.specs.Areas.{Area}
use Rattle.ctr_area.specs.Reading.{area_of}
use Rattle.ctr_area.specs.Chains.{pages_bound, pages_from, slot_places, older_places}

-- The check of a record passes.
abbrev pub Passes : Result ⊤ BadRecord → Type 0
Passes checked = checked ≡ Ok tt

-- what the columns of an entry of the catalog hold behind the key
abbrev pub kinds_at : Area → ℕ → List Kind
kinds_at area e = kinds_of (area.title e).columns

-- the headers of a chain of pages
abbrev pub ChainPasses : ℕ → (ℕ → List ℕ) → Chain → ℕ → Type 0
ChainPasses counted pages chain p =
    AllByRecursion (λ q. Passes (header_check chain counted (pages q)))
    (pages_from pages_bound (area_of pages).header p)

-- the chains of an entry's buckets, from one bucket on
abbrev pub BucketsPass : ℕ → (ℕ → List ℕ) → ℕ → ℕ → List ℕ → Type 0
BucketsPass counted pages e bucket [] = Unit {0}
BucketsPass counted pages e bucket (p ∷ ps) =
    ChainPasses counted pages (Rows e bucket) p × BucketsPass counted pages e (bucket + 1) ps

-- a slot of a table
abbrev pub SlotPasses : ℕ → (ℕ → List ℕ) → ℕ → Place → Type 0
SlotPasses counted pages e at =
    Passes (slot_check (kinds_at (area_of pages) e) counted
    (slot_start (kinds_at (area_of pages) e) at.slot) (pages at.page))

-- a version entry of a table
abbrev pub OlderPasses : ℕ → (ℕ → List ℕ) → ℕ → Place → Type 0
OlderPasses counted pages e at =
    Passes (kept_check (kinds_at (area_of pages) e) counted
    (kept_start (kinds_at (area_of pages) e) at.slot) (pages at.page))

-- No check fails: of an entry of the catalog, of a page to which a chain leads, of a slot or a
-- version entry on it.
pub record ArePassed (counted : ℕ) (pages : ℕ → List ℕ) : Type 0 where
  pub entries : (e : ℕ) → e < 32
      → Passes (entry_check counted (ENTRY_SIZE * (e % 16)) (pages (1 + e / 16)))
  pub rows : (e : ℕ) → BucketsPass counted pages e 0 ((area_of pages).firsts e).buckets
  pub versions : (e : ℕ)
      → ChainPasses counted pages (Versions e) ((area_of pages).firsts e).versions
  pub slots : (e : ℕ) → AllByRecursion (SlotPasses counted pages e) (slot_places (area_of pages) e)
  pub older : (e : ℕ)
      → AllByRecursion (OlderPasses counted pages e) (older_places (area_of pages) e)
