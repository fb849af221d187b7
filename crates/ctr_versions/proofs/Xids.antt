-- The laws of snapshots.
use Rattle.std.proofs.Common.{◌≡◌, ⊎_elim, ℕ, zero, suc, ◌+◌, ◌≤◌, ◌<◌, ◌==◌, Bool, true, false, cond, not, List, [], ◌∷◌, ◌++◌, drop, length, Some, None, refl, sym, ◌∙◌, ap, subst, arith}
use Rattle.std.specs.Prelude.{◌&&◌, ◌||◌, nat_le, nat_lt, is_some, unwrap_or}
use Rattle.std.specs.List.{AllByRecursion}
use Rattle.std.proofs.lemmas.Bool.{eqb-true, eq-eqb, ne_eqb, le-leb, lt-leb, lt-ltb, le-ltb, ltb-true, leb-true, false≢true, and_parts, and_from, cases_eq, cases_lt, or_parts, or_left, or_right, or_cases, or_from, false_from_ne_true}
use Rattle.std.proofs.lemmas.Map.{update_here, update_apart}
use Rattle.ctr_snap.specs.types_Fate.TheVariants as fate
use Rattle.ctr_versions.specs.Chains.{is_by, by}
use Rattle.ctr_versions.specs.Xids.{fate_of, Xids, minus, place_from, has_committed, number_of, IsSnapshotOf, taken, drawn, asked, aborted, settled, forgotten, is_before, IsOnce, AreSound}
use Rattle.ctr_snap.specs.Seeing.{is_committed, has, SnapshotTaken, sees, AreFrom, named}
use Rattle.ctr_versions.proofs.Chains.{with_number}

-- ---- lists of transactions

pub has-append : (x : ℕ) (xs ys : List ℕ) → has x (xs ++ ys) ≡ (has x xs || has x ys)
has-append x [] ys = refl
has-append x (z ∷ xs) ys = elim (x == z) as (λ b. (b || has x (xs ++ ys)) ≡ ((b || has x xs) || has x ys)) [ true ↦ refl | false ↦ has-append x xs ys ]

pub has-minus-other : (x y : ℕ) (xs : List ℕ) → (y ≡ x → ⊥) → has y (minus x xs) ≡ has y xs
has-minus-other x y [] apart = refl
has-minus-other x y (z ∷ xs) apart =
    let rest = has-minus-other x y xs apart in
    elim (x == z) as (λ b. (x == z) ≡ b → has y (cond (not b) (z ∷ minus x xs) (minus x xs)) ≡ ((y == z) || has y xs)) [
      | true ↦ λ is. rest ∙ sym (ap (λ b. b || has y xs) (ne_eqb y z (λ same. apart (same ∙ sym (eqb-true x z is)))))
      | false ↦ λ is. ap (λ b. (y == z) || b) rest
    ] refl

has-minus-same : (x : ℕ) (xs : List ℕ) → has x (minus x xs) ≡ false
has-minus-same x [] = refl
has-minus-same x (z ∷ xs) =
    elim (x == z) as (λ b. (x == z) ≡ b → has x (cond (not b) (z ∷ minus x xs) (minus x xs)) ≡ false) [
      | true ↦ λ is. has-minus-same x xs
      | false ↦ λ is. ap (λ b. b || has x (minus x xs)) is ∙ has-minus-same x xs
    ] refl

pub has_minus : (x y : ℕ) (xs : List ℕ) → has y (minus x xs) ≡ true → (y ≡ x → ⊥) × (has y xs ≡ true)
has_minus x y xs here = ⊎_elim
    (λ same. absurd (false≢true (sym (has-minus-same x xs) ∙ ap (λ z. has z (minus x xs)) (sym same) ∙ here)))
    (λ apart. (apart, sym (has-minus-other x y xs apart) ∙ here))
    (cases_eq y x)

-- ---- places

-- what isn't among those behind
early_place : (k m x : ℕ) (xs : List ℕ) → m ≤ k → nat_le (place_from (suc k) x xs) m ≡ not (has x xs)
early_place k m x [] le = le-leb 0 m (omega arith)
early_place k m x (y ∷ ys) le =
    elim (x == y) as (λ b. nat_le (cond b (suc k) (place_from (suc k + 1) x ys)) m ≡ not (b || has x ys)) [
      | true ↦ lt-leb (suc k) m (omega (arith, le))
      | false ↦ ap (λ j. nat_le (place_from j x ys) m) (omega arith) ∙ early_place (suc k) m x ys (omega (arith, le))
    ]

none_left : (x a : ℕ) (xs : List ℕ) → has x xs ≡ false → has x (drop a xs) ≡ false
none_left x zero xs none = none
none_left x (suc a) [] none = refl
none_left x (suc a) (y ∷ ys) none = none_left x a ys ((or_parts (x == y) (has x ys) none).1)

place_by : (k a x : ℕ) (xs : List ℕ) → IsOnce xs → nat_le (place_from (suc k) x xs) (k + a) ≡ not (has x (drop a xs))
place_by k zero x xs once = ap (λ m. nat_le (place_from (suc k) x xs) m) (omega arith) ∙ early_place k k x xs (omega arith)
place_by k (suc a) x [] once = le-leb 0 (k + suc a) (omega arith)
place_by k (suc a) x (y ∷ ys) once =
    elim (x == y) as (λ b. (x == y) ≡ b → nat_le (cond b (suc k) (place_from (suc k + 1) x ys)) (k + suc a) ≡ not (has x (drop a ys))) [
      | true ↦ λ is. le-leb (suc k) (k + suc a) (omega arith) ∙ sym (ap not (none_left x a ys (ap (λ z. has z ys) (eqb-true x y is) ∙ once.0)))
      | false ↦ λ is. (λ i. nat_le (place_from (one i) x ys) (more i)) ∙ place_by (suc k) a x ys once.1
    ] refl
  where
    one : suc k + 1 ≡ suc (suc k)
    one = omega arith

    more : k + suc a ≡ suc k + a
    more = omega arith

pub place_push : (k x : ℕ) (xs : List ℕ) → has x xs ≡ false → place_from k x (xs ++ x ∷ []) ≡ k + length xs
place_push k x [] none = ap (λ b. cond b k 0) (eq-eqb x x refl) ∙ omega arith
place_push k x (y ∷ ys) none =
    let parts = or_parts (x == y) (has x ys) none in
    ap (λ b. cond b k (place_from (k + 1) x (ys ++ x ∷ []))) parts.0 ∙ place_push (k + 1) x ys parts.1 ∙ omega arith

place_none : (k x : ℕ) (xs : List ℕ) → has x xs ≡ false → place_from k x xs ≡ 0
place_none k x [] none = refl
place_none k x (y ∷ ys) none =
    let parts = or_parts (x == y) (has x ys) none in
    ap (λ b. cond b k (place_from (k + 1) x ys)) parts.0 ∙ place_none (k + 1) x ys parts.1

pub place_other : (k x y : ℕ) (xs : List ℕ) → (y ≡ x → ⊥) → place_from k y (xs ++ x ∷ []) ≡ place_from k y xs
place_other k x y [] apart = ap (λ b. cond b k 0) (ne_eqb y x apart)
place_other k x y (z ∷ zs) apart = ap (λ p. cond (y == z) k p) (place_other (k + 1) x y zs apart)

-- ---- fates

-- what is committed by its fate
pub committed_fate : (xids : Xids) (x : ℕ) → is_committed (fate_of xids x) ≡ has_committed xids x
committed_fate xids x = pick (has_committed xids x) (has x xids.live) (nat_lt 0 x && nat_lt x xids.next)
  where
    pick : (a b c : Bool) → is_committed (cond a fate.Committed (cond b fate.Open (cond c fate.Aborted fate.Later))) ≡ a
    pick true b c = refl
    pick false true c = refl
    pick false false true = refl
    pick false false false = refl

-- what a snapshot sees, by who is committed
pub sees_is : (xids : Xids) (s : SnapshotTaken) (x : ℕ) → sees s (fate_of xids x) x ≡ (has_committed xids x && (nat_lt x s.next && not (has x s.listed)))
sees_is xids s x = ap (λ b. b && (nat_lt x s.next && not (has x s.listed))) (committed_fate xids x)

-- ---- BEGIN

by_number : (committed pending : Bool) (p n : ℕ) → nat_le p n ≡ not pending → is_by n (cond committed (Some p) None) ≡ (committed && not pending)
by_number true pending p n is = is
by_number false pending p n is = refl

five : (a b c d e : Bool) → ((a && (b && (not c && not e))) && (b && not (c || d))) ≡ ((a && (b && (not c && not e))) && not d)
five false b c d e = refl
five true false c d e = refl
five true true true d e = refl
five true true false d true = refl
five true true false true false = refl
five true true false false false = refl

and_none : (b : Bool) → (b && false) ≡ false
and_none true = refl
and_none false = refl

-- the snapshot that BEGIN takes sees the commits that are answered
pub taken_is_of : (xids : Xids) (answered : ℕ) → AreSound xids → IsSnapshotOf xids (taken xids answered) answered
taken_is_of xids answered sound = record {
  drawn = omega arith;
  still_open = λ x here. ap (λ b. nat_lt x xids.next && not b) (has-append x xids.live (drop answered xids.commits) ∙ or_left (has x xids.live) (has x (drop answered xids.commits)) here) ∙ and_none (nat_lt x xids.next);
  sees_by = λ x fresh.
      sees_is xids (taken xids answered) x
      ∙ ap (λ b. has_committed xids x && (nat_lt x xids.next && not b)) (has-append x xids.live (drop answered xids.commits))
      ∙ five (nat_lt 0 x) (nat_lt x xids.next) (has x xids.live) (has x (drop answered xids.commits)) (has x xids.aborted)
      ∙ sym (by_number (has_committed xids x) (has x (drop answered xids.commits)) (place_from 1 x xids.commits) answered (ap (λ m. nat_le (place_from 1 x xids.commits) m) plain ∙ place_by 0 answered x xids.commits sound.once));
}
  where
    plain : answered ≡ 0 + answered
    plain = omega arith

-- a snapshot stands for its number while who is committed stays
steady_sees : (xids other : Xids) (s : SnapshotTaken) (n : ℕ) → ((y : ℕ) → has_committed other y ≡ has_committed xids y) → ((y : ℕ) → number_of other y ≡ number_of xids y)
    → IsSnapshotOf xids s n → (x : ℕ) → (number_of other x ≡ Some 0 → ⊥) → sees s (fate_of other x) x ≡ by (number_of other) n x
steady_sees xids other s n same numbers is x fresh =
    sees_is other s x ∙ ap (λ b. b && is_before s x) (same x) ∙ sym (sees_is xids s x)
    ∙ is.sees_by x (λ old. fresh (numbers x ∙ old)) ∙ ap (is_by n) (sym (numbers x))

-- one that has a number is committed
pub number_committed : (xids : Xids) (x k : ℕ) → number_of xids x ≡ Some k → has_committed xids x ≡ true
number_committed xids x k is = committed (has_committed xids x) (place_from 1 x xids.commits) is
  where
    committed : (b : Bool) (p : ℕ) → cond b (Some p) None ≡ Some k → b ≡ true
    committed true p e = refl
    committed false p e = absurd (false≢true (ap is_some e))

-- one that was committed before the run is seen by the snapshot that BEGIN takes
pub taken_old : (xids : Xids) (answered x : ℕ) → number_of xids x ≡ Some 0 → is_before (taken xids answered) x ≡ true
taken_old xids answered x is =
    let committed = number_committed xids x 0 is in
    let drawn_ = and_parts (nat_lt x xids.next) (not (has x xids.live) && not (has x xids.aborted)) ((and_parts (nat_lt 0 x) (nat_lt x xids.next && (not (has x xids.live) && not (has x xids.aborted))) committed).1) in
    let unlisted = and_parts (not (has x xids.live)) (not (has x xids.aborted)) drawn_.1 in
    let place : place_from 1 x xids.commits ≡ 0 = ap (λ o. unwrap_or o 0) (sym (ap (λ b. cond b (Some (place_from 1 x xids.commits)) None) committed) ∙ is) in
    let unasked : has x xids.commits ≡ false = untrue (has x xids.commits) (sym (early_place 0 0 x xids.commits (omega arith)) ∙ ap (λ p. nat_le p 0) place ∙ le-leb 0 0 (omega arith)) in
    and_from (nat_lt x xids.next) (not (has x (xids.live ++ drop answered xids.commits))) drawn_.0
    (ap not (has-append x xids.live (drop answered xids.commits) ∙ or_from (has x xids.live) (has x (drop answered xids.commits)) (untrue (has x xids.live) unlisted.0) (none_left x answered xids.commits unasked)))
  where
    untrue : (b : Bool) → not b ≡ true → b ≡ false
    untrue true e = absurd (false≢true e)
    untrue false e = refl

-- ---- a number is drawn

pub has_here : (x : ℕ) (xs : List ℕ) → has x (xs ++ x ∷ []) ≡ true
has_here x xs = has-append x xs (x ∷ []) ∙ ap (λ b. has x xs || (b || false)) (eq-eqb x x refl) ∙ or_right (has x xs) (true || false) refl

pub has_there : (x y : ℕ) (xs : List ℕ) → (y ≡ x → ⊥) → has y (xs ++ x ∷ []) ≡ has y xs
has_there x y xs apart = has-append y xs (x ∷ []) ∙ ap (λ b. has y xs || (b || false)) (ne_eqb y x apart) ∙ or_none (has y xs)
  where
    or_none : (b : Bool) → (b || false) ≡ b
    or_none true = refl
    or_none false = refl

lt_next : (y n : ℕ) → (y ≡ n → ⊥) → nat_lt y (n + 1) ≡ nat_lt y n
lt_next y n apart = ⊎_elim (λ lt. lt-ltb y (n + 1) (omega (arith, lt)) ∙ sym (lt-ltb y n lt)) (λ ge. le-ltb y (n + 1) (past y n apart ge) ∙ sym (le-ltb y n ge)) (cases_lt y n)
  where
    past : (y n : ℕ) → (y ≡ n → ⊥) → n ≤ y → n + 1 ≤ y
    past y n apart ge = ⊎_elim (λ lt. omega (arith, lt)) (λ le. absurd (apart (omega (arith, le, ge)))) (cases_lt n y)

none_aborted : (a b c : Bool) → (a && (b && (c && not true))) ≡ false
none_aborted true true true = refl
none_aborted true true false = refl
none_aborted true false c = refl
none_aborted false b c = refl

none_committed : (a b c : Bool) → (a && (b && (not true && c))) ≡ false
none_committed true true c = refl
none_committed true false c = refl
none_committed false b c = refl

pub not_before : (a b c : Bool) → b ≡ false → (a && (b && c)) ≡ false
not_before true b c is = ap (λ b. b && c) is
not_before false b c is = refl

drawn_committed : (xids : Xids) (y : ℕ) → has_committed (drawn xids) y ≡ has_committed xids y
drawn_committed xids y = ⊎_elim
    (λ same. ap (λ b. nat_lt 0 y && (nat_lt y (xids.next + 1) && (not b && not (has y xids.aborted)))) (ap (λ z. has y (xids.live ++ z ∷ [])) (sym same) ∙ has_here y xids.live)
    ∙ none_committed (nat_lt 0 y) (nat_lt y (xids.next + 1)) (not (has y xids.aborted))
    ∙ sym (not_before (nat_lt 0 y) (nat_lt y xids.next) (not (has y xids.live) && not (has y xids.aborted)) (le-ltb y xids.next (omega (arith, same)))))
    (λ apart. λ i. nat_lt 0 y && (lt_next y xids.next apart i && (not (has_there xids.next y xids.live apart i) && not (has y xids.aborted))))
    (cases_eq y xids.next)

pub drawn_numbers : (xids : Xids) (y : ℕ) → number_of (drawn xids) y ≡ number_of xids y
drawn_numbers xids y = ap (λ b. cond b (Some (place_from 1 y xids.commits)) None) (drawn_committed xids y)

pub drawn_snapshots : (xids : Xids) (s : SnapshotTaken) (n : ℕ) → IsSnapshotOf xids s n → IsSnapshotOf (drawn xids) s n
drawn_snapshots xids s n is = record {
  drawn = omega (arith, is.drawn);
  still_open = λ x here. ⊎_elim
      (λ same. ap (λ b. b && not (has x s.listed)) (le-ltb x s.next (omega (arith, same, is.drawn))))
      (λ other. is.still_open x (sym (has_there xids.next x xids.live other) ∙ here))
      (cases_eq x xids.next);
  sees_by = steady_sees xids (drawn xids) s n (drawn_committed xids) (drawn_numbers xids) is;
}

-- ---- a commit is asked

module _ (xids : Xids) (sound : AreSound xids) (x : ℕ) (is_live : has x xids.live ≡ true) where
  pub live_none : number_of xids x ≡ None
  live_none = ap (λ b. cond b (Some (place_from 1 x xids.commits)) None) (ap (λ b. nat_lt 0 x && (nat_lt x xids.next && (not b && not (has x xids.aborted)))) is_live ∙ none_committed (nat_lt 0 x) (nat_lt x xids.next) (not (has x xids.aborted)))

  live_bounds : (xs : List ℕ) → AllByRecursion (λ (x : ℕ). (0 < x) × (x < xids.next)) xs → has x xs ≡ true → (0 < x) × (x < xids.next)
  live_bounds [] all here = absurd (false≢true here)
  live_bounds (y ∷ ys) all here = ⊎_elim
      (λ same. subst (λ (z : ℕ). (0 < z) × (z < xids.next)) (sym (eqb-true x y same)) all.0)
      (λ behind. live_bounds ys all.1 behind)
      (or_cases (x == y) (has x ys) here)

  asked_committed : has_committed (asked x xids) x ≡ true
  asked_committed =
      let bounds = live_bounds xids.live sound.live is_live in
      and_from _ _ (lt-ltb 0 x bounds.0) (and_from _ _ (lt-ltb x xids.next bounds.1) (and_from _ _ (ap not (has-minus-same x xids.live)) (ap not ((sound.apart x is_live).1))))

  asked_others : (y : ℕ) → (y ≡ x → ⊥) → has_committed (asked x xids) y ≡ has_committed xids y
  asked_others y apart = ap (λ b. nat_lt 0 y && (nat_lt y xids.next && (not b && not (has y xids.aborted)))) (has-minus-other x y xids.live apart)

  -- it has the next commit number, and the others theirs
  pub asked_numbers : (y : ℕ) → number_of (asked x xids) y ≡ with_number (number_of xids) x (length xids.commits + 1) y
  asked_numbers y = ⊎_elim
      (λ same. ap (number_of (asked x xids)) same ∙ ap (λ b. cond b (Some (place_from 1 x (xids.commits ++ x ∷ []))) None) asked_committed
      ∙ ap Some (place_push 1 x xids.commits ((sound.apart x is_live).0) ∙ omega arith)
      ∙ sym (ap (with_number (number_of xids) x (length xids.commits + 1)) same ∙ update_here (number_of xids) x (Some (length xids.commits + 1))))
      (λ apart. (λ i. cond (asked_others y apart i) (Some (place_other 1 x y xids.commits apart i)) None) ∙ sym (update_apart (number_of xids) x (Some (length xids.commits + 1)) y apart))
      (cases_eq y x)

  -- it wasn't committed before the run
  pub asked_old : (y : ℕ) → number_of (asked x xids) y ≡ Some 0 → number_of xids y ≡ Some 0
  asked_old y is = ⊎_elim
      (λ same. absurd (never (length xids.commits) (ap (λ o. unwrap_or o 0) (sym (ap (with_number (number_of xids) x (length xids.commits + 1)) same ∙ update_here (number_of xids) x (Some (length xids.commits + 1))) ∙ sym (asked_numbers y) ∙ is))))
      (λ apart. sym (update_apart (number_of xids) x (Some (length xids.commits + 1)) y apart) ∙ sym (asked_numbers y) ∙ is)
      (cases_eq y x)
    where
      never : (n : ℕ) → n + 1 ≡ 0 → ⊥
      never n same = omega (arith, same)

  still_listed : (s : SnapshotTaken) (n : ℕ) → IsSnapshotOf xids s n → (y : ℕ) → has y (minus x xids.live) ≡ true → (nat_lt y s.next && not (has y s.listed)) ≡ false
  still_listed s n is y here = is.still_open y ((has_minus x y xids.live here).1)

  -- a snapshot that was taken before doesn't see it
  pub asked_snapshots : (s : SnapshotTaken) (n : ℕ) → n ≤ length xids.commits → IsSnapshotOf xids s n → IsSnapshotOf (asked x xids) s n
  asked_snapshots s n le is = record {
    drawn = is.drawn;
    still_open = still_listed s n is;
    sees_by = λ y fresh. ⊎_elim
        (λ same. sees_is (asked x xids) s y ∙ ap (λ z. has_committed (asked x xids) z && (nat_lt z s.next && not (has z s.listed))) same
        ∙ ap (λ b. has_committed (asked x xids) x && b) (is.still_open x is_live) ∙ and_none (has_committed (asked x xids) x)
        ∙ sym (ap (is_by n) (asked_numbers y ∙ ap (with_number (number_of xids) x (length xids.commits + 1)) same ∙ update_here (number_of xids) x (Some (length xids.commits + 1))) ∙ lt-leb (length xids.commits + 1) n (omega (arith, le))))
        (λ apart. sees_is (asked x xids) s y ∙ ap (λ b. b && (nat_lt y s.next && not (has y s.listed))) (asked_others y apart) ∙ sym (sees_is xids s y)
        ∙ is.sees_by y (λ old. fresh (asked_numbers y ∙ update_apart (number_of xids) x (Some (length xids.commits + 1)) y apart ∙ old)) ∙ ap (is_by n) (sym (asked_numbers y ∙ update_apart (number_of xids) x (Some (length xids.commits + 1)) y apart)))
        (cases_eq y x);
  }

  -- ---- an open one counts as committed before

  -- which doesn't ask what is listed as a commit
  settled_committed : has_committed (settled x xids) x ≡ true
  settled_committed = asked_committed

  settled_others : (y : ℕ) → (y ≡ x → ⊥) → has_committed (settled x xids) y ≡ has_committed xids y
  settled_others = asked_others

  pub settled_numbers : (y : ℕ) → number_of (settled x xids) y ≡ with_number (number_of xids) x 0 y
  settled_numbers y = ⊎_elim
      (λ same. ap (number_of (settled x xids)) same ∙ ap (λ b. cond b (Some (place_from 1 x xids.commits)) None) settled_committed
      ∙ ap Some (place_none 1 x xids.commits ((sound.apart x is_live).0))
      ∙ sym (ap (with_number (number_of xids) x 0) same ∙ update_here (number_of xids) x (Some 0)))
      (λ apart. ap (λ b. cond b (Some (place_from 1 y xids.commits)) None) (settled_others y apart) ∙ sym (update_apart (number_of xids) x (Some 0) y apart))
      (cases_eq y x)

  -- ---- abort

  aborted_committed : (y : ℕ) → has_committed (aborted x xids) y ≡ has_committed xids y
  aborted_committed y = ⊎_elim
      (λ same. ap (λ b. nat_lt 0 y && (nat_lt y xids.next && (not (has y (minus x xids.live)) && not b))) (ap (λ z. has z (xids.aborted ++ x ∷ [])) same ∙ has_here x xids.aborted) ∙ none_aborted (nat_lt 0 y) (nat_lt y xids.next) (not (has y (minus x xids.live)))
      ∙ sym (ap (λ b. nat_lt 0 y && (nat_lt y xids.next && (not b && not (has y xids.aborted)))) (ap (λ z. has z xids.live) same ∙ is_live) ∙ none_committed (nat_lt 0 y) (nat_lt y xids.next) (not (has y xids.aborted))))
      (λ apart. λ i. nat_lt 0 y && (nat_lt y xids.next && (not (has-minus-other x y xids.live apart i) && not (has_there x y xids.aborted apart i))))
      (cases_eq y x)

  pub aborted_numbers : (y : ℕ) → number_of (aborted x xids) y ≡ number_of xids y
  aborted_numbers y = ap (λ b. cond b (Some (place_from 1 y xids.commits)) None) (aborted_committed y)

  pub aborted_snapshots : (s : SnapshotTaken) (n : ℕ) → IsSnapshotOf xids s n → IsSnapshotOf (aborted x xids) s n
  aborted_snapshots s n is = record {
    drawn = is.drawn;
    still_open = still_listed s n is;
    sees_by = steady_sees xids (aborted x xids) s n aborted_committed aborted_numbers is;
  }

-- ---- the low mark

above_mark : (mark x : ℕ) (xs : List ℕ) → x < mark → AllByRecursion (λ (y : ℕ). mark ≤ y) xs → has x xs ≡ false
above_mark mark x [] lt all = refl
above_mark mark x (y ∷ ys) lt all = or_from (x == y) (has x ys) (ne_eqb x y (λ same. absurd_lt same)) (above_mark mark x ys lt all.1)
  where
    absurd_lt : x ≡ y → ⊥
    absurd_lt same = omega (arith, lt, all.0, same)

-- what is committed and below the mark has a number that the snapshot sees
pub low_number : (xids : Xids) (s : SnapshotTaken) (n mark x k : ℕ) → IsSnapshotOf xids s n → AreFrom mark (named s) → number_of xids x ≡ Some k → x < mark → k ≤ n
low_number xids s n mark x zero is low number lt = omega arith
low_number xids s n mark x (suc k) is low number lt = leb-true (suc k) n (ap (is_by n) (sym number) ∙ sym (is.sees_by x fresh) ∙ seen_below)
  where
    fresh : number_of xids x ≡ Some 0 → ⊥
    fresh old = later k (ap (λ o. unwrap_or o 0) (sym number ∙ old))
      where
        later : (k : ℕ) → suc k ≡ 0 → ⊥
        later k same = omega (arith, same)

    seen_below : sees s (fate_of xids x) x ≡ true
    seen_below =
        sees_is xids s x
        ∙ and_from (has_committed xids x) (nat_lt x s.next && not (has x s.listed)) (number_committed xids x (suc k) number)
        (and_from (nat_lt x s.next) (not (has x s.listed)) (lt-ltb x s.next (omega (arith, lt, low.0))) (ap not (above_mark mark x s.listed lt low.1)))

-- ---- soundness is kept

all_has : (P : ℕ → Type 0) (x : ℕ) (xs : List ℕ) → AllByRecursion P xs → has x xs ≡ true → P x
all_has P x [] all here = absurd (false≢true here)
all_has P x (y ∷ ys) all here = ⊎_elim (λ same. subst P (sym (eqb-true x y same)) all.0) (λ behind. all_has P x ys all.1 behind) (or_cases (x == y) (has x ys) here)

all_push : (P : ℕ → Type 0) (x : ℕ) (xs : List ℕ) → AllByRecursion P xs → P x → AllByRecursion P (xs ++ x ∷ [])
all_push P x [] all p = (p, tt)
all_push P x (y ∷ ys) all p = (all.0, all_push P x ys all.1 p)

all_minus : (P : ℕ → Type 0) (x : ℕ) (xs : List ℕ) → AllByRecursion P xs → AllByRecursion P (minus x xs)
all_minus P x [] all = tt
all_minus P x (y ∷ ys) all = elim (x == y) as (λ b. AllByRecursion P (cond (not b) (y ∷ minus x ys) (minus x ys))) [ true ↦ all_minus P x ys all.1 | false ↦ (all.0, all_minus P x ys all.1) ]

all_mapped : {P Q : ℕ → Type 0} (xs : List ℕ) → ((x : ℕ) → P x → Q x) → AllByRecursion P xs → AllByRecursion Q xs
all_mapped [] f all = tt
all_mapped (x ∷ xs) f all = (f x all.0, all_mapped xs f all.1)

-- where each passes or is no member
all_members : {P Q : ℕ → Type 0} (xs : List ℕ) → ((x : ℕ) → has x xs ≡ true → P x → Q x) → AllByRecursion P xs → AllByRecursion Q xs
all_members [] f all = tt
all_members (x ∷ xs) f all = (f x (or_left (x == x) (has x xs) (eq-eqb x x refl)) all.0, all_members xs (λ y here p. f y (or_right (y == x) (has y xs) here) p) all.1)

once_push : (x : ℕ) (xs : List ℕ) → has x xs ≡ false → IsOnce xs → IsOnce (xs ++ x ∷ [])
once_push x [] none once = (refl, tt)
once_push x (y ∷ ys) none once =
    let parts = or_parts (x == y) (has x ys) none in
    (has_there x y ys (λ same. false≢true (sym parts.0 ∙ eq-eqb x y (sym same))) ∙ once.0, once_push x ys parts.1 once.1)

pub committed_below : (xids : Xids) (x : ℕ) → has_committed xids x ≡ true → x < xids.next
committed_below xids x is =
    let one = and_parts (nat_lt 0 x) (nat_lt x xids.next && (not (has x xids.live) && not (has x xids.aborted))) is in
    ltb-true x xids.next ((and_parts (nat_lt x xids.next) (not (has x xids.live) && not (has x xids.aborted)) one.1).0)

not_has : (next : ℕ) (xs : List ℕ) → AllByRecursion (λ (x : ℕ). x < next) xs → has next xs ≡ false
not_has next xs below = false_from_ne_true (has next xs) (λ here. beyond next (all_has (λ x. x < next) next xs below here))
  where
    beyond : (n : ℕ) → n < n → ⊥
    beyond n lt = omega (arith, lt)

pub drawn_sound : (xids : Xids) → AreSound xids → AreSound (drawn xids)
drawn_sound xids sound = record {
  first = omega arith;
  gone = all_mapped {P = λ x. (0 < x) × (x < xids.next)} {Q = λ x. (0 < x) × (x < xids.next + 1)} xids.aborted (λ x p. (p.0, later x p.1)) sound.gone;
  live = all_push (λ x. (0 < x) × (x < xids.next + 1)) xids.next xids.live (all_mapped {P = λ x. (0 < x) × (x < xids.next)} {Q = λ x. (0 < x) × (x < xids.next + 1)} xids.live (λ x p. (p.0, later x p.1)) sound.live) (sound.first, omega arith);
  apart = λ x here. ⊎_elim
      (λ same. (ap (λ z. has z xids.commits) same ∙ not_has xids.next xids.commits (all_mapped {P = λ x. has_committed xids x ≡ true} {Q = λ x. x < xids.next} xids.commits (committed_below xids) sound.commits), ap (λ z. has z xids.aborted) same ∙ not_has xids.next xids.aborted (all_mapped {P = λ x. (0 < x) × (x < xids.next)} {Q = λ x. x < xids.next} xids.aborted (λ x p. p.1) sound.gone)))
      (λ other. sound.apart x (sym (has_there xids.next x xids.live other) ∙ here))
      (cases_eq x xids.next);
  commits = all_mapped {P = λ x. has_committed xids x ≡ true} {Q = λ x. has_committed (drawn xids) x ≡ true} xids.commits (λ x is. drawn_committed xids x ∙ is) sound.commits;
  once = sound.once;
}
  where
    later : (x : ℕ) → x < xids.next → x < xids.next + 1
    later x lt = omega (arith, lt)

pub asked_sound : (xids : Xids) (sound : AreSound xids) (x : ℕ) → has x xids.live ≡ true → AreSound (asked x xids)
asked_sound xids sound x is_live = record {
  first = sound.first;
  gone = sound.gone;
  live = all_minus (λ x. (0 < x) × (x < xids.next)) x xids.live sound.live;
  apart = λ y here. let left = has_minus x y xids.live here in let before = sound.apart y left.1 in (has_there x y xids.commits left.0 ∙ before.0, before.1);
  commits = all_push (λ c. has_committed (asked x xids) c ≡ true) x xids.commits
      (all_members {P = λ c. has_committed xids c ≡ true} {Q = λ c. has_committed (asked x xids) c ≡ true} xids.commits
      (λ c here is. asked_others xids sound x is_live c (λ same. false≢true (sym ((sound.apart x is_live).0) ∙ ap (λ z. has z xids.commits) (sym same) ∙ here)) ∙ is) sound.commits)
      (asked_committed xids sound x is_live);
  once = once_push x xids.commits ((sound.apart x is_live).0) sound.once;
}

pub aborted_sound : (xids : Xids) (sound : AreSound xids) (x : ℕ) → has x xids.live ≡ true → AreSound (aborted x xids)
aborted_sound xids sound x is_live = record {
  first = sound.first;
  gone = all_push (λ x. (0 < x) × (x < xids.next)) x xids.aborted sound.gone (all_has (λ x. (0 < x) × (x < xids.next)) x xids.live sound.live is_live);
  live = all_minus (λ x. (0 < x) × (x < xids.next)) x xids.live sound.live;
  apart = λ y here. let left = has_minus x y xids.live here in let before = sound.apart y left.1 in (before.0, has_there x y xids.aborted left.0 ∙ before.1);
  commits = all_mapped {P = λ c. has_committed xids c ≡ true} {Q = λ c. has_committed (aborted x xids) c ≡ true} xids.commits (λ c is. aborted_committed xids sound x is_live c ∙ is) sound.commits;
  once = sound.once;
}

pub settled_sound : (xids : Xids) (sound : AreSound xids) (x : ℕ) → has x xids.live ≡ true → AreSound (settled x xids)
settled_sound xids sound x is_live = record {
  first = sound.first;
  gone = sound.gone;
  live = all_minus (λ x. (0 < x) × (x < xids.next)) x xids.live sound.live;
  apart = λ y here. sound.apart y ((has_minus x y xids.live here).1);
  commits = all_members {P = λ c. has_committed xids c ≡ true} {Q = λ c. has_committed (settled x xids) c ≡ true} xids.commits
      (λ c here is. settled_others xids sound x is_live c (λ same. false≢true (sym ((sound.apart x is_live).0) ∙ ap (λ z. has z xids.commits) (sym same) ∙ here)) ∙ is) sound.commits;
  once = sound.once;
}

-- ---- one that was rolled back is forgotten

module _ (xids : Xids) (sound : AreSound xids) (x : ℕ) (is_aborted : has x xids.aborted ≡ true) where
  pub aborted_bounds : (0 < x) × (x < xids.next)
  aborted_bounds = all_has (λ x. (0 < x) × (x < xids.next)) x xids.aborted sound.gone is_aborted

  not_live : has x xids.live ≡ false
  not_live = false_from_ne_true (has x xids.live) (λ here. false≢true (sym ((sound.apart x here).1) ∙ is_aborted))

  pub aborted_none : number_of xids x ≡ None
  aborted_none = ap (λ b. cond b (Some (place_from 1 x xids.commits)) None) (ap (λ b. nat_lt 0 x && (nat_lt x xids.next && (not (has x xids.live) && not b))) is_aborted ∙ none_aborted (nat_lt 0 x) (nat_lt x xids.next) (not (has x xids.live)))

  not_asked : has x xids.commits ≡ false
  not_asked = false_from_ne_true (has x xids.commits) (λ here. false≢true (ap is_some (sym aborted_none ∙ ap (λ b. cond b (Some (place_from 1 x xids.commits)) None) (all_has (λ c. has_committed xids c ≡ true) x xids.commits sound.commits here))))

  forgotten_committed : has_committed (forgotten x xids) x ≡ true
  forgotten_committed =
      let bounds = aborted_bounds in
      and_from _ _ (lt-ltb 0 x bounds.0) (and_from _ _ (lt-ltb x xids.next bounds.1) (and_from _ _ (ap not not_live) (ap not (has-minus-same x xids.aborted))))

  pub forgotten_others : (y : ℕ) → (y ≡ x → ⊥) → has_committed (forgotten x xids) y ≡ has_committed xids y
  forgotten_others y apart = ap (λ b. nat_lt 0 y && (nat_lt y xids.next && (not (has y xids.live) && not b))) (has-minus-other x y xids.aborted apart)

  pub forgotten_here : number_of (forgotten x xids) x ≡ Some 0
  forgotten_here = ap (λ b. cond b (Some (place_from 1 x xids.commits)) None) forgotten_committed ∙ ap Some (place_none 1 x xids.commits not_asked)

  pub forgotten_apart : (y : ℕ) → (y ≡ x → ⊥) → number_of (forgotten x xids) y ≡ number_of xids y
  forgotten_apart y apart = ap (λ b. cond b (Some (place_from 1 y xids.commits)) None) (forgotten_others y apart)

  pub forgotten_numbers : (y : ℕ) → number_of (forgotten x xids) y ≡ with_number (number_of xids) x 0 y
  forgotten_numbers y = ⊎_elim
      (λ same. ap (number_of (forgotten x xids)) same ∙ forgotten_here ∙ sym (ap (with_number (number_of xids) x 0) same ∙ update_here (number_of xids) x (Some 0)))
      (λ apart. forgotten_apart y apart ∙ sym (update_apart (number_of xids) x (Some 0) y apart))
      (cases_eq y x)

  pub forgotten_snapshots : (s : SnapshotTaken) (n : ℕ) → IsSnapshotOf xids s n → IsSnapshotOf (forgotten x xids) s n
  forgotten_snapshots s n is = record {
    drawn = is.drawn;
    still_open = is.still_open;
    sees_by = λ y fresh.
        let apart : y ≡ x → ⊥ = λ same. fresh (ap (number_of (forgotten x xids)) same ∙ forgotten_here) in
        sees_is (forgotten x xids) s y ∙ ap (λ b. b && is_before s y) (forgotten_others y apart) ∙ sym (sees_is xids s y)
        ∙ is.sees_by y (λ old. fresh (forgotten_apart y apart ∙ old)) ∙ ap (is_by n) (sym (forgotten_apart y apart));
  }

  pub forgotten_sound : AreSound (forgotten x xids)
  forgotten_sound = record {
    first = sound.first;
    gone = all_minus (λ x. (0 < x) × (x < xids.next)) x xids.aborted sound.gone;
    live = sound.live;
    apart = λ y here. let before = sound.apart y here in (before.0, has-minus-other x y xids.aborted (λ same. false≢true (sym not_live ∙ ap (λ z. has z xids.live) (sym same) ∙ here)) ∙ before.1);
    commits = all_members {P = λ c. has_committed xids c ≡ true} {Q = λ c. has_committed (forgotten x xids) c ≡ true} xids.commits
        (λ c here is. forgotten_others c (λ same. false≢true (sym not_asked ∙ ap (λ z. has z xids.commits) (sym same) ∙ here)) ∙ is) sound.commits;
    once = sound.once;
  }

pub live_below : (xids : Xids) → AreSound xids → (x : ℕ) → has x xids.live ≡ true → x < xids.next
live_below xids sound x is_live = (all_has (λ x. (0 < x) × (x < xids.next)) x xids.live sound.live is_live).1
