-- A table that is made, or dropped, by a turn of one record.
use Rattle.std.specs.Prelude.{◌≡◌, ◌≢◌, ℕ, ◌+◌, ◌<◌, true, false, List}
use Rattle.ctr_types.specs.declared.value.Column.{Column}
use Rattle.ctr_meta.specs.Kept.{TablesKept}
use Rattle.ctr_meta.specs.Tables.{is_in}
use Rattle.ctr_area.specs.Images.{is_committed_in, is_live}
use Rattle.ctr_area.specs.Sound.{stands_for}
use Rattle.ctr_redo.specs.States.{State}
use Rattle.ctr_page_turns.specs.record_effects_States.{area_in}
use Rattle.ctr_page_turns.specs.record_effects_Standing.{IsDatabaseState}
use Rattle.ctr_page_turns.specs.record_laws_Owed.{IsNameFreeFor, OwedByDrop}
use Rattle.ctr_page_turns.specs.actions_Actions.{Creates}
use Rattle.ctr_page_turns.specs.Acts.{ActsBy}
use Rattle.ctr_page_turns.specs.Rooms.{AddsItems}
use Rattle.ctr_ddl.specs.declared.making.Made.{Made}
use Rattle.ctr_ddl.specs.declared.making.Made.TheVariants.{At, CatalogFull}

-- The pages may be a database's, the transaction is open and sees no table of the name, and nobody
-- else has made or dropped one that is open.
pub record MayMake (x : ℕ) (name : List ℕ) (s : State) : Type 0 where
  pub sound : IsDatabaseState s
  pub is_open : is_in x s.tables.opens ≡ true
  pub unseen : (f : ℕ) → f < 32 → is_live ((area_in s).title f) ≡ true
      → ((area_in s).title f).name ≡ name
      → stands_for (is_committed_in s.tables) x ((area_in s).title f) ≡ false
  pub alone : IsNameFreeFor x s.tables.items (area_in s).title name

-- The table has the lowest free entry, with its columns and no page.
pub record IsMadeAt (x e : ℕ) (name : List ℕ) (columns : List Column) (s t : State) : Type 0 where
  pub acts : ActsBy x (Creates e name columns (area_in t)) s t
  pub free : ((area_in s).title e).state ≡ 0
  pub lowest : (f : ℕ) → f < e → ((area_in s).title f).state ≢ 0

-- No entry is free, and nothing has changed.
pub record IsCatalogFull (s t : State) : Type 0 where
  pub none : (f : ℕ) → f < 32 → ((area_in s).title f).state ≢ 0
  pub same : t ≡ s

-- what a turn did that was to make a table
abbrev pub MakesBy : ℕ → List ℕ → List Column → State → State → Made → Type 0
MakesBy x name columns s t (At e) = IsMadeAt x e name columns s t
MakesBy x name columns s t CatalogFull = IsCatalogFull s t

-- The pages may be a database's, and what a Drop owes is met.
pub record MayDrop (x e : ℕ) (s : State) : Type 0 where
  pub sound : IsDatabaseState s
  pub owed : OwedByDrop s.tables (area_in s) x e

-- ---- whatever the disk tells

-- an entry of the catalog
abbrev pub IsEntryMade : Made → Type 0
IsEntryMade (At e) = e < 32
IsEntryMade CatalogFull = Unit {0}

-- The room of the tables: an item is added with a table that is made. No number is drawn.
abbrev pub MakingLeaves : Made → TablesKept → TablesKept → Type 0
MakingLeaves (At e) k l = AddsItems 1 k l
MakingLeaves CatalogFull k l = l ≡ k

-- The log's next number: one more behind a turn that logged its record.
abbrev pub next_made : Made → ℕ → ℕ
next_made (At e) next = next + 1
next_made CatalogFull next = next
