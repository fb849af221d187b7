-- A transaction of a sound state has fewer heads than a Checkpoint can list.
use Rattle.std.proofs.Common.{◌≡◌, ℕ, zero, suc, ◌+◌, ◌*◌, ◌^◌, ◌≤◌, ◌==◌, if◌then◌else◌, Bool, true, false, List, [], ◌∷◌, ◌++◌, length, refl, ap, Ok, Err, le-ltb, arith, length-append}
use Rattle.std.proofs.Math.Nat.{suc-mul}
use Rattle.std.specs.List.{AllByRecursion, flat_map}
use Rattle.ctr_bytes.specs.Following.{◌>>=◌}
use Rattle.ctr_rec.specs.Damage.{at_most, wrong}
use Rattle.ctr_store.specs.Checkpoints.{heads_need}
use Rattle.ctr_page.specs.declared.header.Header.{Header}
use Rattle.ctr_area.specs.Areas.{Area, no_pages}
use Rattle.ctr_area.specs.Chains.{pages_bound, pages_from, places_on, places_from, slot_places}
use Rattle.ctr_area.specs.Images.{entry_numbers}
use Rattle.ctr_area.specs.Sound.{how_many, head_count, is_headed_by}
use Rattle.ctr_record_laws.specs.Bounds.{IsInBounds}

module _ {A : Type 0} (P : A → Type 0) where
  front_of : (xs ys : List A) → AllByRecursion P (xs ++ ys) → AllByRecursion P xs
  front_of [] ys all = tt
  front_of (x ∷ xs) ys all = (all.0, front_of xs ys all.1)

  back_of : (xs ys : List A) → AllByRecursion P (xs ++ ys) → AllByRecursion P ys
  back_of [] ys all = all
  back_of (x ∷ xs) ys all = back_of xs ys all.1

most_passes : (at got : ℕ) → got ≤ 2 ^ 62 → at_most at (2 ^ 62) got ≡ Ok tt
unfolding at_most
most_passes at got few = ap (λ (b : Bool). if b then Err (wrong at (2 ^ 62) got) else Ok tt) (le-ltb _ _ few)

one_at_most : (b : Bool) → (if b then 1 else 0) ≤ 1
one_at_most true = omega arith
one_at_most false = omega arith

-- no more pass a test than there are
some_of : {A : Type 0} (test : A → Bool) (xs : List A) → how_many test xs ≤ length xs
some_of test [] = omega arith
some_of test (x ∷ xs) = omega (arith, one_at_most (test x), some_of test xs)

-- pieces that aren't longer than so much each
pieces : {A B : Type 0} (f : A → List B) (n : ℕ) → ((x : A) → length (f x) ≤ n) → (xs : List A) → length (flat_map f xs) ≤ length xs * n
pieces f n each [] = omega arith
pieces f n each (x ∷ xs) = omega (arith, length-append (f x) (flat_map f xs), each x, pieces f n each xs, suc-mul (length xs) n)

pages_few : (n : ℕ) (header : ℕ → Header) (p : ℕ) → length (pages_from n header p) ≤ n
pages_few zero header p = omega arith
pages_few (suc n) header p = cut (p == 0) (pages_few n header (header p).next)
  where
    cut : (b : Bool) → length (pages_from n header (header p).next) ≤ n → length (if b then [] else p ∷ pages_from n header (header p).next) ≤ suc n
    cut true few = omega arith
    cut false few = omega (arith, few)

on_page : (p k n : ℕ) → length (places_on p k n) ≤ n
on_page p k zero = omega arith
on_page p k (suc n) = omega (arith, on_page p (k + 1) n)

bound_is : pages_bound ≡ 30000
unfolding pages_bound
bound_is = refl

entries_are : length entry_numbers ≡ 32
unfolding entry_numbers
entries_are = refl

module _ (area : Area) (bounds : IsInBounds area) where
  room_few : (q : ℕ) → length (places_on q 0 (area.room q)) ≤ 170
  room_few q = omega (arith, on_page q 0 (area.room q), bounds.rooms q)

  chain_by : (n p : ℕ) → length (flat_map (λ q. places_on q 0 (area.room q)) (pages_from n area.header p)) ≤ n * 170
  chain_by n p = let all = pieces (λ q. places_on q 0 (area.room q)) 170 room_few (pages_from n area.header p) in let few = pages_few n area.header p in omega (arith, all, few)

  chain_few : (p : ℕ) → length (places_from area p) ≤ 5100000
  chain_few p = let few = chain_by pages_bound p in let is = bound_is in omega (arith, few, is)

  module _ (eight : (e : ℕ) → length (area.firsts e).buckets ≤ 8) where
    table_few : (e : ℕ) → length (slot_places area e) ≤ 40800000
    table_few e = omega (arith, pieces (places_from area) 5100000 chain_few (area.firsts e).buckets, eight e)

    pub heads_few : (x : ℕ) → head_count area x ≤ 2 ^ 62
    heads_few x =
        let some = some_of (is_headed_by area.slot x) (flat_map (slot_places area) entry_numbers) in
        let all = pieces (slot_places area) 40800000 table_few entry_numbers in omega (arith, some, all, entries_are)

    needs_few : (at : ℕ) (ps : List (ℕ × ℕ)) → AllByRecursion (λ (p : ℕ × ℕ). p.1 ≡ head_count area p.0) ps → heads_need at ps ≡ Ok tt
    needs_few at [] each = refl
    needs_few at (p ∷ ps) each =
        let few = heads_few p.0 in
        let is : p.1 ≡ head_count area p.0 = each.0 in
        let here = most_passes at p.1 (omega (arith, few, is)) in rw here (needs_few (at + 16) ps each.1)

    abbrev IsCount : ℕ × ℕ → Type 0
    IsCount p = p.1 ≡ head_count area p.0

    -- so the need of a Checkpoint is met
    pub need_is_met : (opens aborted : List (ℕ × ℕ)) (place : ℕ) → AllByRecursion (λ (p : ℕ × ℕ). p.1 ≡ head_count area p.0) (opens ++ aborted) → (heads_need 25 opens >>= λ _. heads_need place aborted) ≡ Ok tt
    need_is_met opens aborted place each =
        let first = needs_few 25 opens (front_of IsCount opens aborted each) in rw first (needs_few place aborted (back_of IsCount opens aborted each))

-- an entry has eight buckets, or none
pub eight_at_most : (c : Bool) (buckets : List ℕ) (versions : ℕ) → length buckets ≡ 8 → length (if c then no_pages else record { buckets = buckets; versions = versions }).buckets ≤ 8
eight_at_most true buckets versions eight = omega arith
eight_at_most false buckets versions eight = omega (arith, eight)
