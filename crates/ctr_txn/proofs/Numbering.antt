-- The numbers that are kept, after each change.
use Rattle.std.proofs.Common.{◌≡◌, ℕ, zero, suc, ◌+◌, ◌-◌, ◌≤◌, ◌<◌, ◌^◌, Bool, true, false, cond, List, [], ◌∷◌, ◌++◌, length, Option, Some, None, refl, sym, ◌∙◌, ap, subst, arith, ⊎_elim}
use Rattle.std.specs.Prelude.{slice_set, slice_index_or, nat_lt, is_some, if◌then◌else◌}
use Rattle.std.proofs.lemmas.Bool.{true≢false, cases_eq, ltb-false, le-ltb}
use Rattle.std.proofs.lemmas.List.{length-set}
use Rattle.ctr_snap.specs.Seeing.{has}
use Rattle.ctr_versions.specs.Xids.{place_from}
use Rattle.ctr_model.proofs.Sessions.{known}
use Rattle.ctr_versions.proofs.Xids.{has_here, has_there, place_push, place_other}
use Rattle.ctr_txn.specs.Numbered.{number_asked, kept_at, kept_number}
use Rattle.ctr_txn.specs.NumbersInside.{AreAtTheirPlaces}
use Rattle.ctr_txn.specs.declared.numbers.Numbers.TheInside.{Inside}

-- ---- places

kept_push : (ks : List (Option ℕ)) (n : ℕ) → kept_at (ks ++ None ∷ []) n ≡ kept_at ks n
kept_push [] zero = refl
kept_push [] (suc n) = refl
kept_push (k ∷ ks) zero = refl
kept_push (k ∷ ks) (suc n) = kept_push ks n

beyond : (x : ℕ) → x < 0 → ⊥
beyond x lt = omega (arith, lt)

kept_here : (ks : List (Option ℕ)) (n : ℕ) (v : Option ℕ) → n < length ks → kept_at (slice_set ks n v) n ≡ v
kept_here [] n v lt = absurd (beyond n lt)
kept_here (k ∷ ks) zero v lt = refl
kept_here (k ∷ ks) (suc n) v lt = kept_here ks n v (omega (arith, lt))

kept_apart : (ks : List (Option ℕ)) (n m : ℕ) (v : Option ℕ) → (m ≡ n → ⊥) → kept_at (slice_set ks n v) m ≡ kept_at ks m
kept_apart [] n m v apart = refl
kept_apart (k ∷ ks) zero zero v apart = absurd (apart refl)
kept_apart (k ∷ ks) zero (suc m) v apart = refl
kept_apart (k ∷ ks) (suc n) zero v apart = refl
kept_apart (k ∷ ks) (suc n) (suc m) v apart = kept_apart ks n m v (λ same. apart (ap suc same))

pub kept_in : (ks : List (Option ℕ)) (n : ℕ) (d : Option ℕ) → n < length ks → slice_index_or ks n d ≡ kept_at ks n
kept_in [] n d lt = absurd (beyond n lt)
kept_in (k ∷ ks) zero d lt = refl
kept_in (k ∷ ks) (suc n) d lt = kept_in ks n d (omega (arith, lt))

pub kept_out : (ks : List (Option ℕ)) (n : ℕ) → length ks ≤ n → kept_at ks n ≡ None
kept_out [] n le = refl
kept_out (k ∷ ks) zero le = absurd (short (length ks) le)
  where
    short : (m : ℕ) → suc m ≤ 0 → ⊥
    short m le = omega (arith, le)
kept_out (k ∷ ks) (suc n) le = kept_out ks n (omega (arith, le))

-- ---- who asked

-- one more that asked: its place is behind the others, and theirs are as they were
pub asked_here : (x : ℕ) (commits : List ℕ) → has x commits ≡ false → number_asked x (commits ++ x ∷ []) ≡ Some (length commits + 1)
asked_here x commits none =
    ap (λ b. cond b (Some (place_from 1 x (commits ++ x ∷ []))) None) (has_here x commits) ∙ ap (λ n. Some n) (place_push 1 x commits none ∙ omega arith)

pub asked_other : (x y : ℕ) (commits : List ℕ) → (y ≡ x → ⊥) → number_asked y (commits ++ x ∷ []) ≡ number_asked y commits
asked_other x y commits apart =
    ap (λ b. cond b (Some (place_from 1 y (commits ++ x ∷ []))) None) (has_there x y commits apart)
    ∙ ap (λ n. cond (has y commits) (Some n) None) (place_other 1 x y commits apart)

-- ---- the changes

module _ (a b : Inside) (inv : AreAtTheirPlaces a) (first : b.first ≡ a.first) where
  pub drawn_numbered : b.numbers.items ≡ a.numbers.items ++ None ∷ [] → b.commits.items ≡ a.commits.items → b.first + length b.numbers.items < 2 ^ 64 → AreAtTheirPlaces b
  drawn_numbered numbers commits small = record {
    numbers = λ x. (λ i. kept_number (first i) (numbers i) x) ∙ ap (λ k. cond (nat_lt x a.first) None k) (kept_push a.numbers.items (x - a.first)) ∙ inv.numbers x ∙ ap (number_asked x) (sym commits);
    small = small;
  }

  pub asked_numbered : (x : ℕ) → a.first ≤ x → x - a.first < length a.numbers.items → has x a.commits.items ≡ false
      → b.numbers.items ≡ slice_set a.numbers.items (x - a.first) (Some (length a.commits.items + 1)) → b.commits.items ≡ a.commits.items ++ x ∷ [] → AreAtTheirPlaces b
  asked_numbered x from lt none numbers commits = record {
    numbers = λ y. (λ i. kept_number (first i) (numbers i) y) ∙ ⊎_elim (here y) (apart y) (cases_eq y x) ∙ ap (number_asked y) (sym commits);
    small = subst (λ n. n < 2 ^ 64) (sym (λ i. first i + length (numbers i)) ∙ refl) (subst (λ n. a.first + n < 2 ^ 64) (sym (length-set a.numbers.items (x - a.first) (Some (length a.commits.items + 1)))) inv.small);
  }
    where
      new : List (Option ℕ)
      new = slice_set a.numbers.items (x - a.first) (Some (length a.commits.items + 1))

      not_below : nat_lt x a.first ≡ false
      not_below = le-ltb x a.first from

      here : (y : ℕ) → y ≡ x → kept_number a.first new y ≡ number_asked y (a.commits.items ++ x ∷ [])
      here y same = subst (λ z. kept_number a.first new z ≡ number_asked z (a.commits.items ++ x ∷ [])) (sym same)
          (ap (λ b. cond b None (kept_at new (x - a.first))) not_below ∙ kept_here a.numbers.items (x - a.first) (Some (length a.commits.items + 1)) lt
          ∙ sym (asked_here x a.commits.items none))

      apart : (y : ℕ) → (y ≡ x → ⊥) → kept_number a.first new y ≡ number_asked y (a.commits.items ++ x ∷ [])
      apart y isnt = known (nat_lt y a.first)
          (λ below. ap (λ b. cond b None (kept_at new (y - a.first))) below ∙ sym (ap (λ b. cond b None (kept_at a.numbers.items (y - a.first))) below))
          (λ above. ap (λ k. cond (nat_lt y a.first) None k) (kept_apart a.numbers.items (x - a.first) (y - a.first) (Some (length a.commits.items + 1)) (λ same. isnt (joined (ltb-false y a.first above) same))))
          ∙ inv.numbers y ∙ sym (asked_other x y a.commits.items isnt)
        where
          joined : a.first ≤ y → y - a.first ≡ x - a.first → y ≡ x
          joined le same = omega (arith, le, from, same)

-- the next number hasn't asked
pub fresh : (a : Inside) → AreAtTheirPlaces a → has (a.first + length a.numbers.items) a.commits.items ≡ false
fresh a inv = unasked (has next a.commits.items) (place_from 1 next a.commits.items) (sym (inv.numbers next) ∙ none)
  where
    next : ℕ
    next = a.first + length a.numbers.items

    unasked : (b : Bool) (n : ℕ) → (if b then Some n else None) ≡ None → b ≡ false
    unasked true n is = absurd (true≢false (ap is_some is))
    unasked false n is = refl

    behind : (n m : ℕ) → n + m - n ≡ m
    behind n m = omega arith

    none : kept_number a.first a.numbers.items next ≡ None
    none = ap (λ b. cond b None (kept_at a.numbers.items (next - a.first))) (le-ltb next a.first (omega arith))
        ∙ kept_out a.numbers.items (next - a.first) (subst (λ n. length a.numbers.items ≤ n) (sym (behind a.first (length a.numbers.items))) (omega arith))
