-- A table has no more slots than pages can have.
use Rattle.std.proofs.Common.{◌≡◌, ℕ, zero, suc, ◌+◌, ◌*◌, ◌≤◌, cond, true, false, List, [], ◌∷◌, length, refl, ap, subst, sym, arith}
use Rattle.std.specs.Prelude.{◌==◌}
use Rattle.std.specs.List.{flat_map}
use Rattle.std.proofs.lemmas.List.{length-append}
use Rattle.std.proofs.Math.Nat.{mul-suc}
use Rattle.ctr_page.specs.declared.header.Header.{Header}
use Rattle.ctr_area.specs.Areas.{Area}
use Rattle.ctr_area.specs.Chains.{pages_bound, pages_from, places_on, places_from, slot_places}
use Rattle.ctr_record_laws.specs.Bounds.{IsInBounds}

flat_few : {A B : Type 0} (f : A → List B) (m : ℕ) → ((x : A) → length (f x) ≤ m) → (xs : List A) → length (flat_map f xs) ≤ m * length xs
flat_few f m few [] = omega arith
flat_few f m few (x ∷ xs) =
    let here = few x in
    let rest = flat_few f m few xs in
    let both = length-append (f x) (flat_map f xs) in
    let more = mul-suc m (length xs) in
    omega (arith, here, rest, both, more)

length-on : (p k n : ℕ) → length (places_on p k n) ≡ n
length-on p k zero = refl
length-on p k (suc n) = ap (λ j. suc j) (length-on p (k + 1) n)

pages_few : (n : ℕ) (header : ℕ → Header) (p : ℕ) → length (pages_from n header p) ≤ n
pages_few zero header p = omega arith
pages_few (suc n) header p =
    let rest = pages_few n header (header p).next in
    elim (p == 0) as (λ b. length (cond b [] (p ∷ pages_from n header (header p).next)) ≤ suc n) [
      | true ↦ omega arith
      | false ↦ omega (arith, rest)
    ]

scaled : (n m k : ℕ) → n ≤ k → m ≤ 170 * n → m ≤ 170 * k
scaled n m k few le = omega (arith, few, le)

eight_times : (n m : ℕ) → n ≤ 8 → m ≤ 5100000 * n → m ≤ 40800000
eight_times n m few le = omega (arith, few, le)

pub slots_few : (area : Area) (e : ℕ) → IsInBounds area → length (area.firsts e).buckets ≤ 8 → length (slot_places area e) ≤ 40800000
unfolding pages_bound
slots_few area e bounds eight =
    eight_times (length (area.firsts e).buckets) (length (slot_places area e)) eight (flat_few (places_from area) 5100000 one (area.firsts e).buckets)
  where
    one : (p : ℕ) → length (places_from area p) ≤ 5100000
    one p = scaled (length (pages_from pages_bound area.header p)) (length (places_from area p)) pages_bound (pages_few pages_bound area.header p)
        (flat_few (λ q. places_on q 0 (area.room q)) 170 (λ q. subst (λ n. n ≤ 170) (sym (length-on q 0 (area.room q))) (bounds.rooms q)) (pages_from pages_bound area.header p))
