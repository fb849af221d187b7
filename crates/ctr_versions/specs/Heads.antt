-- How many heads of chains are by a transaction. Since only a head is by one that isn't committed,
-- one that was rolled back may be forgotten once it has none.
use Rattle.std.specs.Prelude.{◌≡◌, ℕ, ◌+◌, ◌-◌, ◌^◌, ◌<◌, ◌==◌, nat_lt, ℤ, Bool, true, false, List, [], ◌∷◌, length, Option, Some, None, is_some, if◌then◌else◌}
use Rattle.std.specs.List.{list_any}
use Rattle.ctr_model.specs.types_Row.{Row}
use Rattle.ctr_model.specs.State.{same_name}
use Rattle.ctr_versions.specs.Chains.{Numbers, Behind}
use Rattle.ctr_versions.specs.Versions.{Versions, names_at, rows_of, is_slot}

-- the head of the chain is by this transaction
abbrev pub has_head : {V : Type 0} → ℕ → List (ℕ × Option V) → Bool
has_head x [] = false
has_head x (v ∷ vs) = x == v.0

-- the transaction of a head that isn't committed
abbrev pub open_head : {V : Type 0} → Numbers → List (ℕ × Option V) → Option ℕ
open_head number [] = None
open_head number (v ∷ vs) = if is_some (number v.0) then None else Some v.0

-- the place is one of these, where a test says which are the same
abbrev pub has_place : {K : Type 0} → (K → K → Bool) → K → List K → Bool
has_place same k places = list_any (λ p. same p k) places

-- each place stands once in the list
abbrev pub AreOnce : {K : Type 0} → (K → K → Bool) → List K → Type 0
AreOnce same [] = Unit {0}
AreOnce same (p ∷ ps) = (has_place same p ps ≡ false) × AreOnce same ps

-- A transaction has the head at exactly these places, each told once.
pub record HeadsAt {K V : Type 0} (same : K → K → Bool) (at : K → List (ℕ × Option V)) (x : ℕ)
    (places : List K) : Type 0 where
  pub once : AreOnce same places
  pub each : (k : K) → has_place same k places ≡ has_head x (at k)

-- two rows have one place: the same key of the same table
abbrev pub same_slot : ℕ × ℤ → ℕ × ℤ → Bool
same_slot p q = is_slot p.0 p.1 q.0 q.1

-- the chain of a row
abbrev pub row_at_place : Versions → ℕ × ℤ → List (ℕ × Option Row)
row_at_place versions p = rows_of versions p.0 p.1

-- So many heads of rows and of names are by the transaction.
pub record HeadsAre (x n : ℕ) (versions : Versions) : Type 0 where
  pub rows : List (ℕ × ℤ)
  pub names : List (List ℕ)
  pub rows_are : HeadsAt same_slot (row_at_place versions) x rows
  pub names_are : HeadsAt same_name (names_at versions) x names
  pub sum : n ≡ length rows + length names

-- ---- counts

-- a count stands still at the end of its type
abbrev pub count_end : ℕ
count_end = 2 ^ 64 - 1

-- the count is the number of heads; one that stands at the end of its type says nothing
abbrev pub IsCountOf : ℕ → ℕ → Versions → Type 0
IsCountOf x n versions = n < count_end → HeadsAre x n versions

-- one more, but for a count at the end of its type
abbrev pub count_up : ℕ → ℕ
count_up n = if nat_lt n count_end then n + 1 else n

-- one less, but for a count at the end of its type
abbrev pub count_down : ℕ → ℕ
count_down n = if nat_lt n count_end then n - 1 else n

-- the head is by this transaction
abbrev pub is_of : ℕ → Option ℕ → Bool
is_of x None = false
is_of x (Some y) = x == y

-- a count, where the head of a chain was its own or not, and is now or isn't
abbrev pub moved_by : Bool → Bool → ℕ → ℕ
moved_by true true n = n
moved_by true false n = count_down n
moved_by false true n = count_up n
moved_by false false n = n

-- the count of a transaction, where an open head of a chain gave way to another
abbrev pub count_moved : Option ℕ → Option ℕ → ℕ → ℕ → ℕ
count_moved from to x n = moved_by (is_of x from) (is_of x to) n

-- every version but the heads is by a committed transaction
pub record OnlyHeadsAreOpen (number : Numbers) (versions : Versions) : Type 0 where
  pub names : (name : List ℕ) → Behind number (names_at versions name)
  pub rows : (id : ℕ) (key : ℤ) → Behind number (rows_of versions id key)
