-- When the cleaner finds nothing to do at a position.
use Rattle.std.specs.Prelude.{◌≡◌, ℕ, ◌<◌, ℤ, true, false}
use Rattle.ctr_page.specs.declared.rows.Place.{Place}
use Rattle.ctr_locks.specs.Held.{session_locks}
use Rattle.ctr_area.specs.Images.{is_live}
use Rattle.ctr_walk.specs.redo_States.{State}
use Rattle.ctr_walk.specs.record_effects_States.{area_in}
use Rattle.ctr_record_laws.specs.Owed.{Reverting, OwedByRevert, Trimming, OwedByTrim, OwedByUnlink, OwedByOlderUnlink, OwedByFreeing}
use Rattle.ctr_emptying.specs.clean_Choosing.{passes_below}
use Rattle.ctr_emptying.specs.clean_Cutting.{OwesCut, IsCutUnseen}
use Rattle.ctr_emptying.specs.clean_Lists.{HasNoForget}
use Rattle.ctr_emptying.specs.clean_Older.{IsLooseIn, IsLooseUnseen}
use Rattle.ctr_emptying.specs.clean_Steps.{Locks}
use Rattle.ctr_emptying.specs.clean_Tables.{OwesDying}
use Rattle.ctr_emptying.specs.cursor_Position.{Position}
use Rattle.ctr_emptying.specs.cursor_Position.TheVariants.{Entry, Slot, Kept, Aborted}
use Rattle.ctr_emptying.specs.Emptying.{HasNoRows, is_creator_open}
use Rattle.ctr_locking.specs.Locking.{IsNamedAs}

-- No session has the lock of a key in an entry of the table's name, this one or another, or in one
-- that is free.
abbrev pub IsFreeRow : Locks → State → ℕ → ℤ → Type 0
IsFreeRow locks s e key = (f x : ℕ) → f < 32 → IsNamedAs (area_in s) e f
    → session_locks x f key locks ≡ false

-- Of a table that is dead no page may leave its bucket; none its chain of versions, once no bucket
-- has a page; and the entry may not be freed, unless who made it is open.
pub record HasNothingInDead (e : ℕ) (s : State) : Type 0 where
  pub rows : (p b : ℕ) → OwedByUnlink s.tables (area_in s) p e b → ⊥
  pub versions : HasNoRows (area_in s) e → (p : ℕ) → OwedByOlderUnlink (area_in s) p e → ⊥
  pub entry : is_creator_open s e ≡ false → OwedByFreeing (area_in s) e → ⊥

-- A slot may not lose its head, in whichever way; nor, in a live table, be trimmed, or its chain be
-- cut.
pub record HasNothingInSlot (low e : ℕ) (at : Place) (s : State) : Type 0 where
  pub heads : (way : Reverting) → OwedByRevert s.tables (area_in s) e at way → ⊥
  pub slots : is_live ((area_in s).title e) ≡ true → (way : Trimming)
      → OwedByTrim (passes_below low s.tables) s.tables (area_in s) e at way → ⊥
  pub chains : is_live ((area_in s).title e) ≡ true → (q : Place) → OwesCut low e at s q → ⊥

-- At a position there is nothing to do, but to a row that isn't free, by a test of entry and key.
abbrev pub HasNothingAt : (ℕ → ℤ → Type 0) → ℕ → Position → State → Type 0
HasNothingAt free low (Entry e) s = (OwesDying low e s → ⊥)
    × (((area_in s).title e).state ≡ 2 → HasNothingInDead e s)
HasNothingAt free low (Slot e b at) s = free e ((area_in s).slot at).key
    → HasNothingInSlot low e at s
HasNothingAt free low (Kept e q) s = is_live ((area_in s).title e) ≡ true
    → free e ((area_in s).older q).key → IsLooseIn e q s → ⊥
HasNothingAt free low (Aborted n) s = HasNoForget n s.tables

-- At a position it isn't seen whether there is anything to do: the row's chain goes on beyond the
-- cleaner's reach, or the version entry is of a commit that somebody may not see yet.
abbrev pub IsUnseenAt : Locks → ℕ → Position → State → Type 0
IsUnseenAt locks low (Entry e) s = ⊥
IsUnseenAt locks low (Slot e b at) s =
    (is_live ((area_in s).title e) ≡ true) × IsCutUnseen low locks e at s
IsUnseenAt locks low (Kept e q) s =
    (is_live ((area_in s).title e) ≡ true) × IsLooseUnseen low locks e q s
IsUnseenAt locks low (Aborted n) s = ⊥
