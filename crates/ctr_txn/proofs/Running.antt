-- What a run has of the sessions, after a change of one of them.
use Rattle.std.proofs.Common.{◌≡◌, ℕ, zero, suc, ◌+◌, ◌<◌, cond, not, List, [], ◌∷◌, length, Option, Some, None, refl, sym, ◌∙◌, ap, subst, arith}
use Rattle.std.specs.Prelude.{slice_set, get_or, is_some, unwrap_or}
use Rattle.std.specs.Option.{option_map}
use Rattle.std.specs.declared.cmp.Ordering.TheVariants.{Less, Equal, Greater}
use Rattle.std.specs.Ordering.{nat_cmp, is_eq}
use Rattle.std.specs.Cmp.{nat_cmp_is}
use Rattle.std.specs.FinMap.Entries.{find, put, by_order}
use Rattle.std.proofs.lemmas.Bool.{false≢true}
use Rattle.ctr_model.specs.Maps.{without}
use Rattle.ctr_versions.specs.Engine.{SessionHeld}
use Rattle.ctr_txn.specs.Held.{TxnHeld, held_from}

less : (x y : ℕ) → x < y → nat_cmp x y ≡ Less
less x y lt = sym (nat_cmp_is x y Less lt)

equal : (x y : ℕ) → x ≡ y → nat_cmp x y ≡ Equal
equal x y same = sym (nat_cmp_is x y Equal same)

greater : (x y : ℕ) → y < x → nat_cmp x y ≡ Greater
greater x y lt = sym (nat_cmp_is x y Greater lt)

beyond : (i : ℕ) → i < 0 → ⊥
beyond i lt = omega (arith, lt)

-- ---- who is there

-- below the first there is none
find_below : (m n : ℕ) (xs : List (Option TxnHeld)) → m < n → find nat_cmp m (held_from n xs) ≡ None
find_below m n [] lt = refl
find_below m n (None ∷ rest) lt = find_below m (n + 1) rest (omega (arith, lt))
find_below m n (Some t ∷ rest) lt = ap (λ o. cond (is_eq o) (Some t.session) (find nat_cmp m (held_from (n + 1) rest))) (less m n lt) ∙ find_below m (n + 1) rest (omega (arith, lt))

pub find_held : (n i : ℕ) (xs : List (Option TxnHeld)) → find nat_cmp (n + i) (held_from n xs) ≡ option_map (λ (t : TxnHeld). t.session) (get_or xs i None)
find_held n i [] = refl
find_held n zero (None ∷ rest) = find_below (n + 0) (n + 1) rest (omega arith)
find_held n zero (Some t ∷ rest) = ap (λ o. cond (is_eq o) (Some t.session) (find nat_cmp (n + 0) (held_from (n + 1) rest))) (equal (n + 0) n (omega arith))
find_held n (suc i) (None ∷ rest) = subst (λ m. find nat_cmp m (held_from (n + 1) rest) ≡ option_map (λ (t : TxnHeld). t.session) (get_or rest i None)) (omega arith) (find_held (n + 1) i rest)
find_held n (suc i) (Some t ∷ rest) =
    ap (λ o. cond (is_eq o) (Some t.session) (find nat_cmp (n + suc i) (held_from (n + 1) rest))) (greater (n + suc i) n (omega arith))
    ∙ subst (λ m. find nat_cmp m (held_from (n + 1) rest) ≡ option_map (λ (t : TxnHeld). t.session) (get_or rest i None)) (omega arith) (find_held (n + 1) i rest)

-- ---- one is put in

put_below : (m n : ℕ) (v : SessionHeld) (xs : List (Option TxnHeld)) → m < n → put nat_cmp m v (held_from n xs) ≡ (m, v) ∷ held_from n xs
put_below m n v [] lt = refl
put_below m n v (None ∷ rest) lt = put_below m (n + 1) v rest (omega (arith, lt))
put_below m n v (Some t ∷ rest) lt =
    ap (λ o. by_order o ((m, v) ∷ (n, t.session) ∷ held_from (n + 1) rest) ((n, v) ∷ held_from (n + 1) rest) ((n, t.session) ∷ put nat_cmp m v (held_from (n + 1) rest))) (less m n lt)

pub put_held : (n i : ℕ) (xs : List (Option TxnHeld)) (t : TxnHeld) → i < length xs → held_from n (slice_set xs i (Some t)) ≡ put nat_cmp (n + i) t.session (held_from n xs)
put_held n i [] t lt = absurd (beyond i lt)
put_held n zero (None ∷ rest) t lt = ap (λ m. (m, t.session) ∷ held_from (n + 1) rest) (omega arith) ∙ sym (put_below (n + 0) (n + 1) t.session rest (omega arith))
put_held n zero (Some u ∷ rest) t lt =
    sym (ap (λ o. by_order o ((n + 0, t.session) ∷ (n, u.session) ∷ held_from (n + 1) rest) ((n, t.session) ∷ held_from (n + 1) rest) ((n, u.session) ∷ put nat_cmp (n + 0) t.session (held_from (n + 1) rest))) (equal (n + 0) n (omega arith)))
put_held n (suc i) (None ∷ rest) t lt = subst (λ m. held_from (n + 1) (slice_set rest i (Some t)) ≡ put nat_cmp m t.session (held_from (n + 1) rest)) (omega arith) (put_held (n + 1) i rest t (omega (arith, lt)))
put_held n (suc i) (Some u ∷ rest) t lt =
    ap (λ es. (n, u.session) ∷ es) (subst (λ m. held_from (n + 1) (slice_set rest i (Some t)) ≡ put nat_cmp m t.session (held_from (n + 1) rest)) (omega arith) (put_held (n + 1) i rest t (omega (arith, lt))))
    ∙ sym (ap (λ o. by_order o ((n + suc i, t.session) ∷ (n, u.session) ∷ held_from (n + 1) rest) ((n, t.session) ∷ held_from (n + 1) rest) ((n, u.session) ∷ put nat_cmp (n + suc i) t.session (held_from (n + 1) rest))) (greater (n + suc i) n (omega arith)))

-- ---- one goes

without_below : (m n : ℕ) (xs : List (Option TxnHeld)) → m < n → without nat_cmp m (held_from n xs) ≡ held_from n xs
without_below m n [] lt = refl
without_below m n (None ∷ rest) lt = without_below m (n + 1) rest (omega (arith, lt))
without_below m n (Some t ∷ rest) lt =
    ap (λ o. cond (not (is_eq o)) ((n, t.session) ∷ without nat_cmp m (held_from (n + 1) rest)) (without nat_cmp m (held_from (n + 1) rest))) (less m n lt)
    ∙ ap (λ es. (n, t.session) ∷ es) (without_below m (n + 1) rest (omega (arith, lt)))

pub without_held : (n i : ℕ) (xs : List (Option TxnHeld)) → held_from n (slice_set xs i None) ≡ without nat_cmp (n + i) (held_from n xs)
without_held n i [] = refl
without_held n zero (None ∷ rest) = sym (without_below (n + 0) (n + 1) rest (omega arith))
without_held n zero (Some u ∷ rest) =
    sym (ap (λ o. cond (not (is_eq o)) ((n, u.session) ∷ without nat_cmp (n + 0) (held_from (n + 1) rest)) (without nat_cmp (n + 0) (held_from (n + 1) rest))) (equal (n + 0) n (omega arith))
    ∙ without_below (n + 0) (n + 1) rest (omega arith))
without_held n (suc i) (None ∷ rest) = subst (λ m. held_from (n + 1) (slice_set rest i None) ≡ without nat_cmp m (held_from (n + 1) rest)) (omega arith) (without_held (n + 1) i rest)
without_held n (suc i) (Some u ∷ rest) =
    ap (λ es. (n, u.session) ∷ es) (subst (λ m. held_from (n + 1) (slice_set rest i None) ≡ without nat_cmp m (held_from (n + 1) rest)) (omega arith) (without_held (n + 1) i rest))
    ∙ sym (ap (λ o. cond (not (is_eq o)) ((n, u.session) ∷ without nat_cmp (n + suc i) (held_from (n + 1) rest)) (without nat_cmp (n + suc i) (held_from (n + 1) rest))) (greater (n + suc i) n (omega arith)))

-- ---- one is another that is held the same

pub same_held : (n i : ℕ) (xs : List (Option TxnHeld)) (t u : TxnHeld) → get_or xs i None ≡ Some t → u.session ≡ t.session → held_from n (slice_set xs i (Some u)) ≡ held_from n xs
same_held n i [] t u at same = refl
same_held n zero (None ∷ rest) t u at same = absurd (none_is at)
  where
    none_is : None ≡ Some t → ⊥
    none_is is = false≢true (ap is_some is)
same_held n zero (Some w ∷ rest) t u at same = ap (λ s. (n, s) ∷ held_from (n + 1) rest) (same ∙ sym (ap (λ (o : Option TxnHeld). (unwrap_or o w).session) at))
same_held n (suc i) (None ∷ rest) t u at same = same_held (n + 1) i rest t u at same
same_held n (suc i) (Some w ∷ rest) t u at same = ap (λ es. (n, w.session) ∷ es) (same_held (n + 1) i rest t u at same)
