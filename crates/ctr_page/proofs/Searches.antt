-- A search goes one further, and what is looked at lies on the page.
use Rattle.std.proofs.Common.{◌≡◌, ⊎_elim, ℕ, ◌+◌, ◌/◌, ◌<◌, ◌≤◌, Bool, false, Result, Ok, subst, arith, Option, Some, None, ◌∙◌}
use Rattle.std.specs.Prelude.{⊤}
use Rattle.std.proofs.Math.Nat.{div-mul-le_self}
use Rattle.std.proofs.lemmas.Bool.{cases_lt}
use Rattle.std.proofs.lemmas.Nat.{row_fits}
use Rattle.ctr_rec.specs.declared.decoding.BadRecord.{BadRecord}
use Rattle.ctr_page.specs.Places.{room_for, start_of}
use Rattle.ctr_page.specs.Searching.{PassesBy, EndsSearch, IsFirst}

-- one more passes by
pub passes_one : (check : ℕ → Result ⊤ BadRecord) (sought : ℕ → Bool) (from n : ℕ) → PassesBy check sought from n → check n ≡ Ok tt → sought n ≡ false → PassesBy check sought from (n + 1)
passes_one check sought from n before passes isnt = λ m from_on lt. ⊎_elim
    (λ less. before m from_on less)
    (λ le. subst (λ k. (check k ≡ Ok tt) × (sought k ≡ false)) (last m lt le) (passes, isnt)) (cases_lt m n)
  where
    last : (m : ℕ) → m < n + 1 → n ≤ m → n ≡ m
    last m lt le = omega (arith, lt, le)

-- a slot or a version entry that has room on a page
pub lies_on_page : (size n : ℕ) → n < room_for size → start_of size n + size ≤ 4096
lies_on_page size n lt = omega (arith, row_fits n size (4080 / size) size lt (omega arith), div-mul-le_self 4080 size)

-- a search that ends without damage ends at the first, by any test that says the same of what passes
pub ends_first : (check : ℕ → Result ⊤ BadRecord) (sought same : ℕ → Bool) (from count : ℕ) (found : Option ℕ) → ((m : ℕ) → m < count → check m ≡ Ok tt → same m ≡ sought m)
    → EndsSearch check sought from count (Ok found) → IsFirst same from count found
ends_first check sought same from count None is ends = λ m from_on lt. is m lt ((ends m from_on lt).0) ∙ (ends m from_on lt).1
ends_first check sought same from count (Some n) is ends =
    let before = ends.2 in
    let passes = ends.3 in
    (ends.0, ends.1, is n ends.1 passes ∙ ends.4, λ m from_on lt. is m (below m lt) (before m from_on lt).0 ∙ (before m from_on lt).1)
  where
    below : (m : ℕ) → m < n → m < count
    below m lt = omega (arith, lt, ends.1)
