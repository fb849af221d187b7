-- The buckets of a table that have no page, and what is owed so.
use Rattle.std.proofs.Common.{◌≡◌, ◌≢◌, ℕ, zero, suc, ◌+◌, ◌≤◌, ◌<◌, ◌==◌, Bool, true, false, List, [], ◌∷◌, length, slice_index, refl, sym, ◌∙◌, ap, subst, arith}
use Rattle.std.specs.List.{AllByRecursion}
use Rattle.std.proofs.lemmas.Bool.{eqb-true, eqb-false}
use Rattle.ctr_page.specs.declared.rows.Place.{Place}
use Rattle.ctr_pvs.specs.redo_States.{State}
use Rattle.ctr_area.specs.Areas.{Firsts, Area}
use Rattle.ctr_area.specs.Chains.{places_from}
use Rattle.ctr_area.specs.Sound.{IsAmong, IsUsedSlot}
use Rattle.ctr_area.proofs.Buckets.{each_of, nothing_from_0}
use Rattle.ctr_pvs.specs.record_effects_States.{pages_in, area_in}
use Rattle.ctr_record_laws.specs.Owed.{first_page, OwedByOlderUnlink}
use Rattle.ctr_record_laws.proofs.Bounds.{pages_bounded}
use Rattle.ctr_record_laws.proofs.Members.{among_flat}
use Rattle.ctr_emptying.specs.Emptying.{HasNoRows}

-- ---- bucket by bucket

module _ (area : Area) (e : ℕ) where
  -- the buckets before one have no page
  abbrev pub AreEmptyTo : ℕ → Type 0
  AreEmptyTo n = (b : ℕ) → b < n → first_page area e b ≡ 0

  pub none_yet : AreEmptyTo 0
  none_yet b lt = absurd (omega (arith, lt))

  pub one_more : (n m : ℕ) → m ≡ n + 1 → first_page area e n ≡ 0 → AreEmptyTo n → AreEmptyTo m
  one_more n m next here before b lt = by (b == n) refl
    where
      by : (t : Bool) → (b == n) ≡ t → first_page area e b ≡ 0
      by true is = subst (λ j. first_page area e j ≡ 0) (sym (eqb-true b n is)) here
      by false apart = before b (less (eqb-false b n apart))
        where
          less : (b ≡ n → ⊥) → b < n
          less other = omega (arith, lt, next, other)

-- behind all eight some was looked at
pub behind_first : (n : ℕ) → 8 ≤ n → n ≡ 0 → ⊥
behind_first n all none = omega (arith, all, none)

-- a list has no more elements than so many, and each of these is 0
all_zero : (ps : List ℕ) (n : ℕ) → length ps ≤ n → ((b : ℕ) → b < n → slice_index ps b ≡ 0) → AllByRecursion (λ p. p ≡ 0) ps
all_zero [] n few zeros = tt
all_zero (p ∷ ps) zero few zeros = absurd (none (length ps) few)
  where
    none : (m : ℕ) → suc m ≤ zero → ⊥
    none m le = omega (arith, le)
all_zero (p ∷ ps) (suc n) few zeros = (zeros 0 (some n), all_zero ps n (fewer (length ps) few) (λ b lt. zeros (suc b) (more b lt)))
  where
    some : (m : ℕ) → 0 < suc m
    some m = omega arith

    fewer : (m : ℕ) → suc m ≤ suc n → m ≤ n
    fewer m le = omega (arith, le)

    more : (b : ℕ) → b < n → suc b < suc n
    more b lt = omega (arith, lt)

-- any of them is 0, where all are
zero_at : (ps : List ℕ) (b : ℕ) → AllByRecursion (λ p. p ≡ 0) ps → slice_index ps b ≡ 0
zero_at [] b all = refl
zero_at (p ∷ ps) zero all = all.0
zero_at (p ∷ ps) (suc b) all = zero_at ps b all.1

-- an entry has at most eight buckets
few_buckets : (s : State) (e : ℕ) → (((area_in s).title e).state ≢ 0 → length ((area_in s).firsts e).buckets ≡ 8) → length ((area_in s).firsts e).buckets ≤ 8
few_buckets s e eight = by (((area_in s).title e).state == 0) refl
  where
    most : (n : ℕ) → n ≡ 8 → n ≤ 8
    most n is = omega (arith, is)

    least : (n : ℕ) → n ≡ 0 → n ≤ 8
    least n is = omega (arith, is)

    by : (t : Bool) → (((area_in s).title e).state == 0) ≡ t → length ((area_in s).firsts e).buckets ≤ 8
    by true is = least (length ((area_in s).firsts e).buckets) (ap (λ (f : Firsts). length f.buckets) ((pages_bounded (pages_in s)).free e (eqb-true ((area_in s).title e).state 0 is)))
    by false is = most (length ((area_in s).firsts e).buckets) (eight (eqb-false ((area_in s).title e).state 0 is))

pub no_rows : (s : State) (e n : ℕ) → (((area_in s).title e).state ≢ 0 → length ((area_in s).firsts e).buckets ≡ 8) → 8 ≤ n → AreEmptyTo (area_in s) e n → HasNoRows (area_in s) e
no_rows s e n eight all empty = all_zero ((area_in s).firsts e).buckets n (enough (length ((area_in s).firsts e).buckets) (few_buckets s e eight)) empty
  where
    enough : (m : ℕ) → m ≤ 8 → m ≤ n
    enough m le = omega (arith, le, all)

pub some_rows : (area : Area) (e b : ℕ) → first_page area e b ≢ 0 → HasNoRows area e → ⊥
some_rows area e b some none = some (zero_at (area.firsts e).buckets b none)

-- ---- what is owed

-- a table without a page of rows has no slot
pub no_slot : (area : Area) (e : ℕ) → HasNoRows area e → (at : Place) → IsUsedSlot area e at → ⊥
no_slot area e none at used =
    let found = among_flat (places_from area) at (area.firsts e).buckets used.0 in
    nothing_from_0 area at (subst (λ q. IsAmong at (places_from area q)) (each_of (λ q. q ≡ 0) found.0 (area.firsts e).buckets none found.1) found.2)

-- so its first page of versions may leave the chain
pub versions_owe : (area : Area) (e p : ℕ) → HasNoRows area e → p ≢ 0 → (area.firsts e).versions ≡ p → OwedByOlderUnlink area p e
versions_owe area e p none some is = record { first = is; some = positive some; none = no_slot area e none }
  where
    positive : p ≢ 0 → 0 < p
    positive isnt = omega (arith, isnt)

-- without one, no page may
pub none_owes : (area : Area) (e p : ℕ) → (area.firsts e).versions ≡ 0 → OwedByOlderUnlink area p e → ⊥
none_owes area e p none owes = apart (sym owes.first ∙ none) owes.some
  where
    apart : p ≡ 0 → 0 < p → ⊥
    apart is lt = omega (arith, is, lt)
