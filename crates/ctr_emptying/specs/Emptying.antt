-- What a step of the cleaner did in a table that is dead.
use Rattle.std.specs.Prelude.{◌≡◌, ℕ, ◌+◌, Bool, false}
use Rattle.std.specs.List.{AllByRecursion}
use Rattle.ctr_meta.specs.Tables.{is_in}
use Rattle.ctr_area.specs.Areas.{Area}
use Rattle.ctr_pvs.specs.redo_States.{State}
use Rattle.ctr_pvs.specs.record_effects_States.{area_in}
use Rattle.ctr_record_laws.specs.Owed.{OwedByUnlink, OwedByOlderUnlink, OwedByFreeing}
use Rattle.ctr_pvs.specs.actions_Actions.{Unlinks, UnlinksOlder}
use Rattle.ctr_clean.specs.page_turns_Acts.{ActsBy}
use Rattle.ctr_clean.specs.dead_Titles.{frees}
use Rattle.ctr_emptying.specs.declared.emptied.Emptied.{Emptied}
use Rattle.ctr_emptying.specs.declared.emptied.Emptied.TheVariants.{OneRecord, Nothing}

-- the log's next number behind a step
abbrev pub next_emptied : Emptied → ℕ → ℕ
next_emptied OneRecord next = next + 1
next_emptied Nothing next = next

-- no bucket of a table has a page
abbrev pub HasNoRows : Area → ℕ → Type 0
HasNoRows area e = AllByRecursion (λ p. p ≡ 0) (area.firsts e).buckets

-- who made the table of an entry is open
abbrev pub is_creator_open : State → ℕ → Bool
is_creator_open s e = is_in ((area_in s).title e).creator s.tables.opens

-- What a step at a bucket of a dead table did: its first page left it; or nothing, and no page may.
abbrev pub UnlinksRowsAt : ℕ → ℕ → State → State → Emptied → Type 0
UnlinksRowsAt e b s t OneRecord = (p : ℕ) × ActsBy s.tables.next (Unlinks p e b) s t
UnlinksRowsAt e b s t Nothing =
    (t ≡ s) × ((p : ℕ) → OwedByUnlink s.tables (area_in s) p e b → ⊥)

-- What a step at the versions of a table did: no bucket has a page, and the first page of versions
-- left its chain; or nothing, and a bucket has a page, or no page of versions may leave.
abbrev pub UnlinksVersionsAt : ℕ → State → State → Emptied → Type 0
UnlinksVersionsAt e s t OneRecord = (p : ℕ) × HasNoRows (area_in s) e
    × ActsBy s.tables.next (UnlinksOlder p e) s t
UnlinksVersionsAt e s t Nothing = (t ≡ s)
    × (HasNoRows (area_in s) e → (p : ℕ) → OwedByOlderUnlink (area_in s) p e → ⊥)

-- What a step at an entry did: its creator isn't open, and it is freed; or nothing, and its creator
-- is open, or it may not be freed.
abbrev pub FreesEntryAt : ℕ → State → State → Emptied → Type 0
FreesEntryAt e s t OneRecord =
    (is_creator_open s e ≡ false) × ActsBy s.tables.next (frees e (area_in s)) s t
FreesEntryAt e s t Nothing = (t ≡ s)
    × (is_creator_open s e ≡ false → OwedByFreeing (area_in s) e → ⊥)
