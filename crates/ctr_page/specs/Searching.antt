-- A search through what stands on a page, by number: each is checked before it is looked at, and
-- the search ends at the first that is sought, or that fails its check.
use Rattle.std.specs.Prelude.{◌≡◌, ℕ, ◌<◌, ◌≤◌, Bool, true, false, Option, None, Some, ⊤, Result, Ok, Err}
use Rattle.ctr_rec.specs.declared.decoding.BadRecord.{BadRecord}

-- From one number on, all before another pass their checks, and none of them is sought.
abbrev pub PassesBy : (ℕ → Result ⊤ BadRecord) → (ℕ → Bool) → ℕ → ℕ → Type 0
PassesBy check sought from n =
    (m : ℕ) → from ≤ m → m < n → (check m ≡ Ok tt) × (sought m ≡ false)

-- Where the search from a number on ends, among so many: the first that is sought, which passes
-- too; none of them; or the damage of the first that fails.
abbrev pub EndsSearch : (ℕ → Result ⊤ BadRecord) → (ℕ → Bool) → ℕ → ℕ
    → Result (Option ℕ) BadRecord → Type 0
EndsSearch check sought from count (Ok (Some n)) =
    (from ≤ n) × (n < count) × PassesBy check sought from n × (check n ≡ Ok tt)
    × (sought n ≡ true)
EndsSearch check sought from count (Ok None) = PassesBy check sought from count
EndsSearch check sought from count (Err bad) =
    (n : ℕ) × (from ≤ n) × (n < count) × PassesBy check sought from n × (check n ≡ Err bad)

-- The first from a number on, among so many, that is sought, or none.
abbrev pub IsFirst : (ℕ → Bool) → ℕ → ℕ → Option ℕ → Type 0
IsFirst sought from count (Some n) =
    (from ≤ n) × (n < count) × (sought n ≡ true)
    × ((m : ℕ) → from ≤ m → m < n → sought m ≡ false)
IsFirst sought from count None = (m : ℕ) → from ≤ m → m < count → sought m ≡ false
