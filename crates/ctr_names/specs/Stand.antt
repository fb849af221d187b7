-- Tables of one name over time.
use Rattle.std.specs.Prelude.{◌≡◌, ℕ, ◌+◌, ◌≤◌, ◌<◌, true, Some, None}
use Rattle.ctr_record_laws.specs.versions_Chains.{Numbers, by}
use Rattle.ctr_record_laws.specs.meta_Tables.{Tables}
use Rattle.ctr_record_laws.specs.area_Areas.{Title}
use Rattle.ctr_record_laws.specs.area_Images.{is_committed_in, is_live, is_standing}
use Rattle.ctr_record_laws.specs.area_Sound.{IsOneOf}

-- From the low number on at most one table of each name stands at each number; and of two drops of
-- a name the later one, by its transaction, has no lower commit number.
pub record NamesStand (low : ℕ) (number : Numbers) (title : ℕ → Title) : Type 0 where
  pub one : (j : ℕ) → low ≤ j → IsOneOf title (is_standing (by number j))
  pub ranked : (e f i k : ℕ) → e < 32 → f < 32 → is_live (title e) ≡ true
      → is_live (title f) ≡ true → (title e).name ≡ (title f).name
      → number (title e).dropper ≡ Some i → number (title f).dropper ≡ Some k
      → (title e).dropper ≤ (title f).dropper → i ≤ k

-- What this transaction has dropped was dropped later than each committed drop of the name.
abbrev pub IsDropNewer : Tables → (ℕ → Title) → ℕ → Type 0
IsDropNewer tables title x = (e f : ℕ) → e < 32 → f < 32
    → is_live (title e) ≡ true → is_live (title f) ≡ true → (title e).name ≡ (title f).name
    → (title e).dropper ≡ x → is_committed_in tables (title f).dropper ≡ true
    → (title f).dropper < x

-- A transaction without a number gets the one behind n, above which nobody has one; the others keep
-- theirs.
pub record HasNext (number new : Numbers) (x n : ℕ) : Type 0 where
  pub none : number x ≡ None
  pub here : new x ≡ Some (n + 1)
  pub others : (y : ℕ) → (y ≡ x → ⊥) → new y ≡ number y
  pub bounded : (y i : ℕ) → number y ≡ Some i → i ≤ n

-- who is committed by the new tables as by the old ones has the number of before
abbrev pub StaysWithCommits : Tables → Tables → Numbers → Numbers → Type 0
StaysWithCommits old new number number_now = (y : ℕ)
    → is_committed_in new y ≡ is_committed_in old y → number_now y ≡ number y
