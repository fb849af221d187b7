-- The laws of one chain.
use Rattle.std.proofs.Common.{◌≡◌, ◌⊎◌, ⊎_elim, inl, inr, ℕ, ◌+◌, ◌==◌, ◌≤◌, ◌<◌, Bool, true, false, cond, List, [], ◌∷◌, ◌++◌, length, take, drop, Option, Some, None, refl, sym, ◌∙◌, ap, subst, arith, eqb}
use Rattle.std.specs.Prelude.{unwrap_or, is_some, ◌||◌}
use Rattle.std.specs.Option.{option_or}
use Rattle.std.specs.List.{AllByRecursion}
use Rattle.std.specs.Map.{update}
use Rattle.std.proofs.lemmas.Map.{update_here, update_apart}
use Rattle.std.proofs.lemmas.Cmp.{nat_eq_equiv}
use Rattle.std.proofs.lemmas.Bool.{le-leb, lt-leb, le-ltb, lt-ltb, cases_lt, eqb-true, ne_eqb, eq-eqb, false≢true}
use Rattle.std.proofs.lemmas.List.{take-append-le, take-append-drop, length-take-le, drop-append-le, take_all, drop_all, length_push, length-drop}
use Rattle.ctr_versions.specs.Chains.{IsUnwritten, Numbers, value_seen, is_by, by, by_or_own, newest, above, newest_since, written_by, AllCommitted, Behind, overlay, value_at_number, last_write, changed_since, AllTold, ShowsKey}

-- ---- an uncommitted version in front

pub skip_seen : {V : Type 0} (number : Numbers) (j x : ℕ) (v : Option V) (chain : List (ℕ × Option V)) → number x ≡ None → value_seen (by number j) ((x, v) ∷ chain) ≡ value_seen (by number j) chain
skip_seen number j x v chain none = ap (λ o. cond (is_by j o) v (value_seen (by number j) chain)) none

pub skip_newest : {V : Type 0} (number : Numbers) (x : ℕ) (v : Option V) (chain : List (ℕ × Option V)) → number x ≡ None → newest number ((x, v) ∷ chain) ≡ newest number chain
skip_newest number x v chain none = ap (λ o. option_or o (newest number chain)) none

pub committed_behind : {V : Type 0} (number : Numbers) (chain : List (ℕ × Option V)) → AllCommitted number chain → Behind number chain
committed_behind number [] all = tt
committed_behind number (v ∷ vs) all = all.1

module _ {V : Type 0} (at since : ℕ → Type 0) (number : Numbers) (base : Option V) (writes : List (Option (Option V))) where
  -- a write in front of committed versions, the first of a key among them
  pub push_shows : (chain : List (ℕ × Option V)) (x : ℕ) (v : Option V) → number x ≡ None → AllCommitted number chain → ShowsKey at since number base writes chain → ShowsKey at since number base writes ((x, v) ∷ chain)
  push_shows chain x v none all shows = record {
    rows = λ j here. skip_seen number j x v chain none ∙ shows.rows j here;
    changes = λ n here. ap (above n) (skip_newest number x v chain none) ∙ shows.changes n here;
    told = λ n here. (λ k is below. absurd (false≢true (ap is_some (sym none ∙ is))), shows.told n here);
    behind = all;
  }

  -- the head of a transaction that isn't committed gives way
  pub pop_shows : (chain : List (ℕ × Option V)) (x : ℕ) (v : Option V) → number x ≡ None → ShowsKey at since number base writes ((x, v) ∷ chain) → ShowsKey at since number base writes chain
  pop_shows chain x v none shows = record {
    rows = λ j here. sym (skip_seen number j x v chain none) ∙ shows.rows j here;
    changes = λ n here. ap (above n) (sym (skip_newest number x v chain none)) ∙ shows.changes n here;
    told = λ n here. (shows.told n here).1;
    behind = committed_behind number chain shows.behind;
  }

-- ---- fewer numbers, and other numbers of transactions that the chain lacks

module _ {V : Type 0} (at since : ℕ → Type 0) (number : Numbers) (base : Option V) (writes : List (Option (Option V))) where
  pub narrowed : (at' since' : ℕ → Type 0) (chain : List (ℕ × Option V)) → ((j : ℕ) → at' j → at j) → ((n : ℕ) → since' n → since n) → ShowsKey at since number base writes chain → ShowsKey at' since' number base writes chain
  narrowed at' since' chain rows changes shows = record { rows = λ j here. shows.rows j (rows j here); changes = λ n here. shows.changes n (changes n here); told = λ n here. shows.told n (changes n here); behind = shows.behind }

abbrev pub SameNumber : {V : Type 0} → Numbers → Numbers → ℕ × Option V → Type 0
SameNumber number other v = other v.0 ≡ number v.0

pub seen_alike : {V : Type 0} (a b : ℕ → Bool) (chain : List (ℕ × Option V)) → AllByRecursion (λ (v : ℕ × Option V). b v.0 ≡ a v.0) chain → value_seen b chain ≡ value_seen a chain
seen_alike a b [] all = refl
seen_alike a b (v ∷ vs) all = λ i. cond (all.0 i) v.1 (seen_alike a b vs all.1 i)

pub by_alike : {V : Type 0} (number other : Numbers) (j : ℕ) (chain : List (ℕ × Option V)) → AllByRecursion (SameNumber number other) chain → AllByRecursion (λ (v : ℕ × Option V). by other j v.0 ≡ by number j v.0) chain
by_alike number other j [] all = tt
by_alike number other j (v ∷ vs) all = (ap (is_by j) all.0, by_alike number other j vs all.1)

newest_alike : {V : Type 0} (number other : Numbers) (chain : List (ℕ × Option V)) → AllByRecursion (SameNumber number other) chain → newest other chain ≡ newest number chain
newest_alike number other [] all = refl
newest_alike number other (v ∷ vs) all = λ i. option_or (all.0 i) (newest_alike number other vs all.1 i)

committed_alike : {V : Type 0} (number other : Numbers) (chain : List (ℕ × Option V)) → AllByRecursion (SameNumber number other) chain → AllCommitted number chain → AllCommitted other chain
committed_alike number other [] all committed = tt
committed_alike number other (v ∷ vs) all committed = (ap is_some all.0 ∙ committed.0, committed_alike number other vs all.1 committed.1)

behind_alike : {V : Type 0} (number other : Numbers) (chain : List (ℕ × Option V)) → AllByRecursion (SameNumber number other) chain → Behind number chain → Behind other chain
behind_alike number other [] all behind = tt
behind_alike number other (v ∷ vs) all behind = committed_alike number other vs all.1 behind

told_alike : {V : Type 0} (number other : Numbers) (n : ℕ) (writes : List (Option (Option V))) (chain : List (ℕ × Option V)) → AllByRecursion (SameNumber number other) chain → AllTold number n writes chain → AllTold other n writes chain
told_alike number other n writes [] all told = tt
told_alike number other n writes (v ∷ vs) all told = (λ k is. told.0 k (sym all.0 ∙ is), told_alike number other n writes vs all.1 told.1)

module _ {V : Type 0} (at since : ℕ → Type 0) (number : Numbers) (base : Option V) (writes : List (Option (Option V))) where
  pub renumbered : (other : Numbers) (chain : List (ℕ × Option V)) → AllByRecursion (SameNumber number other) chain → ShowsKey at since number base writes chain → ShowsKey at since other base writes chain
  renumbered other chain all shows = record {
    rows = λ j here. seen_alike (by number j) (by other j) chain (by_alike number other j chain all) ∙ shows.rows j here;
    changes = λ n here. ap (above n) (newest_alike number other chain all) ∙ shows.changes n here;
    told = λ n here. told_alike number other n writes chain all (shows.told n here);
    behind = behind_alike number other chain all shows.behind;
  }

-- ---- cleaning

pub not_above : (k n : ℕ) → k ≤ n → above n (Some k) ≡ None
not_above k n le = ap (λ b. cond b (Some k) None) (le-ltb n k le)

pub seen_by : (number : Numbers) (j x k : ℕ) → number x ≡ Some k → k ≤ j → by number j x ≡ true
seen_by number j x k is le = ap (is_by j) is ∙ le-leb k j le

-- ---- a session

pub behind_others : {V : Type 0} (number : Numbers) (n me : ℕ) (chain : List (ℕ × Option V)) → number me ≡ None → AllCommitted number chain → AllByRecursion (λ (v : ℕ × Option V). by_or_own number n me v.0 ≡ by number n v.0) chain
behind_others number n me [] none all = tt
behind_others number n me (v ∷ vs) none all = (not_mine (v.0 == me) refl, behind_others number n me vs none all.1)
  where
    not_mine : (b : Bool) → (v.0 == me) ≡ b → (b || by number n v.0) ≡ by number n v.0
    not_mine true is = absurd (false≢true (sym (ap is_some (ap number (eqb-true v.0 me is) ∙ none)) ∙ all.0))
    not_mine false is = refl

-- an open transaction sees what it wrote, and else what its number shows
pub own_seen : {V : Type 0} (number : Numbers) (n me : ℕ) (chain : List (ℕ × Option V)) (w : Option (Option V)) → number me ≡ None → Behind number chain → written_by me chain ≡ w
    → value_seen (by_or_own number n me) chain ≡ unwrap_or w (value_seen (by number n) chain)
own_seen number n me [] w none behind own = ap (λ o. unwrap_or o None) own
own_seen number n me (v ∷ vs) w none behind own =
    let value = value_seen (by number n) (v ∷ vs) in
    elim (me == v.0) as (λ b. (me == v.0) ≡ b → cond ((v.0 == me) || by number n v.0) v.1 (value_seen (by_or_own number n me) vs) ≡ unwrap_or (cond b (Some v.1) None) value) [
      | true ↦ λ is. ap (λ b. cond (b || by number n v.0) v.1 (value_seen (by_or_own number n me) vs)) (nat_eq_equiv.symm v.0 me ∙ is)
      | false ↦ λ is. λ i. cond ((nat_eq_equiv.symm v.0 me ∙ is) i || by number n v.0) v.1 (seen_alike (by number n) (by_or_own number n me) vs (behind_others number n me vs none behind) i)
    ] refl ∙ ap (λ o. unwrap_or o value) own

pub view_shows : {V : Type 0} (at since : ℕ → Type 0) (number : Numbers) (base : Option V) (writes : List (Option (Option V))) (chain : List (ℕ × Option V)) (me n : ℕ) (w : Option (Option V))
    → number me ≡ None → at n → written_by me chain ≡ w → ShowsKey at since number base writes chain → value_seen (by_or_own number n me) chain ≡ unwrap_or w (value_at_number base writes n)
view_shows at since number base writes chain me n w none here own shows = own_seen number n me chain w none shows.behind own ∙ ap (λ v. unwrap_or w v) (shows.rows n here)

-- ---- a commit is asked

-- the transaction has this number from now on
abbrev pub with_number : Numbers → ℕ → ℕ → Numbers
with_number number x k = update eqb number x (Some k)

pub others_number : {V : Type 0} (number : Numbers) (x k : ℕ) (chain : List (ℕ × Option V)) → number x ≡ None → AllCommitted number chain → AllByRecursion (SameNumber number (with_number number x k)) chain
others_number number x k [] none all = tt
others_number number x k (v ∷ vs) none all =
    (update_apart number x (Some k) v.0 (λ is. false≢true (sym (ap is_some (ap number is ∙ none)) ∙ all.0)), others_number number x k vs none all.1)

overlay-append : {V : Type 0} (ws us : List (Option (Option V))) (v : Option V) → overlay (ws ++ us) v ≡ overlay us (overlay ws v)
overlay-append [] us v = refl
overlay-append (w ∷ ws) us v = overlay-append ws us (unwrap_or w v)

last_write-push : {V : Type 0} (n : ℕ) (ws : List (Option (Option V))) (w : Option (Option V)) → last_write n (ws ++ w ∷ []) ≡ cond (is_some w) (Some (n + length ws)) (last_write n ws)
last_write-push n [] None = refl
last_write-push n [] (Some v) = ap Some (omega arith)
last_write-push n (u ∷ us) None = ap (λ o. option_or o (cond (is_some u) (Some n) None)) (last_write-push (n + 1) us None)
last_write-push n (u ∷ us) (Some v) = ap (λ o. option_or o (cond (is_some u) (Some n) None)) (last_write-push (n + 1) us (Some v)) ∙ ap Some (omega arith)

pub early_value : {V : Type 0} (base : Option V) (ws : List (Option (Option V))) (w : Option (Option V)) (j : ℕ) → j ≤ length ws → value_at_number base (ws ++ w ∷ []) j ≡ value_at_number base ws j
early_value base ws w j le = ap (λ us. overlay us base) (take-append-le j ws (w ∷ []) le)

late_value : {V : Type 0} (base : Option V) (ws : List (Option (Option V))) (w : Option (Option V)) (j : ℕ) → length ws < j → value_at_number base (ws ++ w ∷ []) j ≡ unwrap_or w (value_at_number base ws j)
late_value base ws w j lt =
    ap (λ us. overlay us base) (take_all j (ws ++ w ∷ []) (subst (λ n. n ≤ j) (sym (length_push ws w)) (omega (arith, lt)))) ∙ overlay-append ws (w ∷ []) base
    ∙ ap (λ us. unwrap_or w (overlay us base)) (sym (take_all j ws (omega (arith, lt))))

early_change : {V : Type 0} (ws : List (Option (Option V))) (w : Option (Option V)) (n : ℕ) → n ≤ length ws → changed_since n (ws ++ w ∷ []) ≡ cond (is_some w) (Some (length ws + 1)) (changed_since n ws)
early_change ws w n le =
    ap (λ us. last_write (n + 1) us) (drop-append-le n ws (w ∷ []) le) ∙ last_write-push (n + 1) (drop n ws) w
    ∙ ap (λ m. cond (is_some w) (Some m) (changed_since n ws)) (ap (λ l. n + 1 + l) (length-drop n ws) ∙ omega (arith, le))

late_change : {V : Type 0} (ws : List (Option (Option V))) (n : ℕ) → length ws ≤ n → changed_since n ws ≡ None
late_change ws n le = ap (λ us. last_write (n + 1) us) (drop_all n ws le)

same_value : {V : Type 0} (base : Option V) (ws : List (Option (Option V))) (j : ℕ) → value_at_number base (ws ++ None ∷ []) j ≡ value_at_number base ws j
same_value base ws j = ⊎_elim (late_value base ws None j) (early_value base ws None j) (cases_lt (length ws) j)

same_change : {V : Type 0} (ws : List (Option (Option V))) (n : ℕ) → changed_since n (ws ++ None ∷ []) ≡ changed_since n ws
same_change ws n =
    ⊎_elim (λ lt. late_change (ws ++ None ∷ []) n (subst (λ m. m ≤ n) (sym (length_push ws None)) (omega (arith, lt))) ∙ sym (late_change ws n (omega (arith, lt)))) (early_change ws None n)
    (cases_lt (length ws) n)

past : (l k n : ℕ) → k ≡ l + 1 → l < n → n < k → ⊥
past l k n is lt above_ = omega (arith, is, lt, above_)

told_when : {V : Type 0} (number : Numbers) (n : ℕ) (writes : List (Option (Option V))) (chain : List (ℕ × Option V)) → is_some (changed_since n writes) ≡ true → AllTold number n writes chain
told_when number n writes [] is = tt
told_when number n writes (v ∷ vs) is = (λ k at below. is, told_when number n writes vs is)

module _ {V : Type 0} (at since : ℕ → Type 0) (number : Numbers) (base : Option V) (writes : List (Option (Option V))) where
  told_silent : (n : ℕ) (chain : List (ℕ × Option V)) → AllTold number n writes chain → AllTold number n (writes ++ None ∷ []) chain
  told_silent n [] told = tt
  told_silent n (v ∷ vs) told = (λ k is below. ap is_some (same_change writes n) ∙ told.0 k is below, told_silent n vs told.1)

  -- a transaction asks that didn't write the key
  pub silent_shows : (chain : List (ℕ × Option V)) → ShowsKey at since number base writes chain → ShowsKey at since number base (writes ++ None ∷ []) chain
  silent_shows chain shows = record {
    rows = λ j here. shows.rows j here ∙ sym (same_value base writes j);
    changes = λ n here. shows.changes n here ∙ sym (same_change writes n);
    told = λ n here. told_silent n chain (shows.told n here);
    behind = shows.behind;
  }

  asked_rows : (x : ℕ) (v : Option V) (vs : List (ℕ × Option V)) → number x ≡ None → ShowsKey at since number base writes ((x, v) ∷ vs) → (j : ℕ) → at j → (length writes < j) ⊎ (j ≤ length writes)
      → value_seen (by (with_number number x (length writes + 1)) j) ((x, v) ∷ vs) ≡ value_at_number base (writes ++ Some v ∷ []) j
  asked_rows x v vs none shows j here (inl late) =
      ap (λ b. cond b v (value_seen (by (with_number number x (length writes + 1)) j) vs)) (ap (is_by j) (update_here number x (Some (length writes + 1))) ∙ le-leb (length writes + 1) j (omega (arith, late)))
      ∙ sym (late_value base writes (Some v) j late)
  asked_rows x v vs none shows j here (inr early) =
      let other = with_number number x (length writes + 1) in
      ap (λ b. cond b v (value_seen (by other j) vs)) (ap (is_by j) (update_here number x (Some (length writes + 1))) ∙ lt-leb (length writes + 1) j (omega (arith, early)))
      ∙ seen_alike (by number j) (by other j) vs (by_alike number other j vs (others_number number x (length writes + 1) vs none shows.behind))
      ∙ sym (skip_seen number j x v vs none) ∙ shows.rows j here ∙ sym (early_value base writes (Some v) j early)

  asked_changes : (x : ℕ) (v : Option V) (vs : List (ℕ × Option V)) (n : ℕ) → (length writes < n) ⊎ (n ≤ length writes)
      → newest_since (with_number number x (length writes + 1)) n ((x, v) ∷ vs) ≡ changed_since n (writes ++ Some v ∷ [])
  asked_changes x v vs n (inl late) =
      ap (λ o. above n (option_or o (newest (with_number number x (length writes + 1)) vs))) (update_here number x (Some (length writes + 1))) ∙ not_above (length writes + 1) n (omega (arith, late))
      ∙ sym (late_change (writes ++ Some v ∷ []) n (subst (λ m. m ≤ n) (sym (length_push writes (Some v))) (omega (arith, late))))
  asked_changes x v vs n (inr early) =
      ap (λ o. above n (option_or o (newest (with_number number x (length writes + 1)) vs))) (update_here number x (Some (length writes + 1)))
      ∙ ap (λ b. cond b (Some (length writes + 1)) None) (lt-ltb n (length writes + 1) (omega (arith, early))) ∙ sym (early_change writes (Some v) n early)

  -- none of the others has a number above those that have asked
  told_late : (n x k : ℕ) (w : Option V) → length writes < n → (chain : List (ℕ × Option V)) → AllTold number n writes chain → AllByRecursion (SameNumber number (with_number number x k)) chain → AllTold (with_number number x k) n (writes ++ Some w ∷ []) chain
  told_late n x k w late [] told alike = tt
  told_late n x k w late (v ∷ vs) told alike =
      (λ m is above_. absurd (false≢true (ap is_some (sym (late_change writes n (omega (arith, late)))) ∙ told.0 m (sym alike.0 ∙ is) above_)), told_late n x k w late vs told.1 alike.1)

  asked_told : (x : ℕ) (v : Option V) (vs : List (ℕ × Option V)) → number x ≡ None → ShowsKey at since number base writes ((x, v) ∷ vs) → (n : ℕ) → since n → (length writes < n) ⊎ (n ≤ length writes)
      → AllTold (with_number number x (length writes + 1)) n (writes ++ Some v ∷ []) ((x, v) ∷ vs)
  asked_told x v vs none shows n here (inl late) = (
    λ k is above_. absurd (past (length writes) k n (ap (λ o. unwrap_or o k) (sym is ∙ update_here number x (Some (length writes + 1)))) late above_),
    told_late n x (length writes + 1) v late vs (shows.told n here).1 (others_number number x (length writes + 1) vs none shows.behind),
  )
  asked_told x v vs none shows n here (inr early) = told_when (with_number number x (length writes + 1)) n (writes ++ Some v ∷ []) ((x, v) ∷ vs) (ap is_some (early_change writes (Some v) n early))

  -- a transaction asks that wrote the key
  written_shows : (x : ℕ) (v : Option V) (vs : List (ℕ × Option V)) → number x ≡ None → ShowsKey at since number base writes ((x, v) ∷ vs)
      → ShowsKey at since (with_number number x (length writes + 1)) base (writes ++ Some v ∷ []) ((x, v) ∷ vs)
  written_shows x v vs none shows = record {
    rows = λ j here. asked_rows x v vs none shows j here (cases_lt (length writes) j);
    changes = λ n here. asked_changes x v vs n (cases_lt (length writes) n);
    told = λ n here. asked_told x v vs none shows n here (cases_lt (length writes) n);
    behind = committed_alike number (with_number number x (length writes + 1)) vs (others_number number x (length writes + 1) vs none shows.behind) shows.behind;
  }

  -- a transaction asks for its commit, and w is what it wrote at the key
  pub asked_shows : (chain : List (ℕ × Option V)) (x : ℕ) (w : Option (Option V)) → number x ≡ None → written_by x chain ≡ w → ShowsKey at since number base writes chain
      → ShowsKey at since (with_number number x (length writes + 1)) base (writes ++ w ∷ []) chain
  asked_shows [] x w none own shows = subst (λ w. ShowsKey at since (with_number number x (length writes + 1)) base (writes ++ w ∷ []) []) own (record {
    rows = λ j here. shows.rows j here ∙ sym (same_value base writes j);
    changes = λ n here. shows.changes n here ∙ sym (same_change writes n);
    told = λ n here. tt;
    behind = tt;
  })
  asked_shows (v ∷ vs) x w none own shows =
      let k = length writes + 1 in
      subst (λ w. ShowsKey at since (with_number number x k) base (writes ++ w ∷ []) (v ∷ vs)) own (elim (x == v.0) as (λ b. (x == v.0) ≡ b → ShowsKey at since (with_number number x k) base (writes ++ cond b (Some v.1) None ∷ []) (v ∷ vs)) [
        | true ↦ λ is. let mine = sym (eqb-true x v.0 is) in
            subst (λ y. ShowsKey at since (with_number number x k) base (writes ++ Some v.1 ∷ []) ((y, v.1) ∷ vs)) (sym mine)
            (written_shows x v.1 vs none (subst (λ y. ShowsKey at since number base writes ((y, v.1) ∷ vs)) mine shows))
        | false ↦ λ is. renumbered at since number base (writes ++ None ∷ []) (with_number number x k) (v ∷ vs)
            (update_apart number x (Some k) v.0 (λ same. false≢true (sym is ∙ eq-eqb x v.0 (sym same))), others_number number x k vs none shows.behind) (silent_shows (v ∷ vs) shows)
      ] refl)

-- ---- what a transaction has written, through the changes

pub committed_none : {V : Type 0} (number : Numbers) (y : ℕ) (chain : List (ℕ × Option V)) → number y ≡ None → AllCommitted number chain → written_by y chain ≡ None
committed_none number y [] none all = refl
committed_none number y (v ∷ vs) none all = ap (λ b. cond b (Some v.1) None) (ne_eqb y v.0 (λ same. false≢true (sym (ap is_some (sym (ap number same) ∙ none)) ∙ all.0)))

pub push_own : {V : Type 0} (x : ℕ) (v : Option V) (chain : List (ℕ × Option V)) → written_by x ((x, v) ∷ chain) ≡ Some v
push_own x v chain = ap (λ b. cond b (Some v) None) (eq-eqb x x refl)

-- of another transaction that is open, before and behind a version in front
pub push_others : {V : Type 0} (number : Numbers) (x y : ℕ) (v : Option V) (chain : List (ℕ × Option V)) → number y ≡ None → (y ≡ x → ⊥) → AllCommitted number chain → written_by y ((x, v) ∷ chain) ≡ written_by y chain
push_others number x y v chain none apart all = ap (λ b. cond b (Some v) None) (ne_eqb y x apart) ∙ sym (committed_none number y chain none all)

-- ---- a key of a table that the transaction made itself

module _ {V : Type 0} (number : Numbers) (base : Option V) (writes : List (Option (Option V))) (x : ℕ) where
  abbrev ByX : ℕ × Option V → Type 0
  ByX v = v.0 ≡ x

  asked_number : (y : ℕ) → y ≡ x → with_number number x (length writes + 1) y ≡ Some (length writes + 1)
  asked_number y is = ap (λ y. with_number number x (length writes + 1) y) is ∙ update_here number x (Some (length writes + 1))

  created_seen : (chain : List (ℕ × Option V)) → AllByRecursion ByX chain → (j : ℕ) → length writes < j → value_seen (by (with_number number x (length writes + 1)) j) chain ≡ value_seen (λ y. y == x) chain
  created_seen [] by_x j late = refl
  created_seen (v ∷ vs) by_x j late =
      ap (λ b. cond b v.1 (value_seen (by (with_number number x (length writes + 1)) j) vs)) (ap (is_by j) (asked_number v.0 by_x.0) ∙ le-leb (length writes + 1) j (omega (arith, late)))
      ∙ sym (ap (λ b. cond b v.1 (value_seen (λ y. y == x) vs)) (eq-eqb v.0 x by_x.0))

  created_newest : (chain : List (ℕ × Option V)) → AllByRecursion ByX chain → (n : ℕ) → length writes < n → newest_since (with_number number x (length writes + 1)) n chain ≡ None
  created_newest [] by_x n late = refl
  created_newest (v ∷ vs) by_x n late =
      ap (λ o. above n (option_or o (newest (with_number number x (length writes + 1)) vs))) (asked_number v.0 by_x.0) ∙ not_above (length writes + 1) n (omega (arith, late))

  created_committed : (chain : List (ℕ × Option V)) → AllByRecursion ByX chain → AllCommitted (with_number number x (length writes + 1)) chain
  created_committed [] by_x = tt
  created_committed (v ∷ vs) by_x = (ap is_some (asked_number v.0 by_x.0), created_committed vs by_x.1)

  created_told : (chain : List (ℕ × Option V)) (u : Option V) → AllByRecursion ByX chain → (n : ℕ) → length writes < n → AllTold (with_number number x (length writes + 1)) n (writes ++ Some u ∷ []) chain
  created_told [] u by_x n late = tt
  created_told (v ∷ vs) u by_x n late = (λ k is above_. absurd (past (length writes) k n (ap (λ o. unwrap_or o k) (sym is ∙ asked_number v.0 by_x.0)) late above_), created_told vs u by_x.1 n late)

  -- the transaction asks that made the table: all versions are its own, and it has left u
  pub created_shows : (chain : List (ℕ × Option V)) (u : Option V) → AllByRecursion ByX chain → value_seen (λ y. y == x) chain ≡ u
      → ShowsKey (λ j. length writes < j) (λ n. length writes < n) (with_number number x (length writes + 1)) base (writes ++ Some u ∷ []) chain
  created_shows chain u by_x own = record {
    rows = λ j late. created_seen chain by_x j late ∙ own ∙ sym (late_value base writes (Some u) j late);
    changes = λ n late. created_newest chain by_x n late ∙ sym (late_change (writes ++ Some u ∷ []) n (subst (λ m. m ≤ n) (sym (length_push writes (Some u))) (omega (arith, late))));
    told = λ n late. created_told chain u by_x n late;
    behind = committed_behind (with_number number x (length writes + 1)) chain (created_committed chain by_x);
  }

-- ---- the first committer wins

last_write-quiet : {V : Type 0} (n : ℕ) (ws us : List (Option (Option V))) → AllByRecursion IsUnwritten us → last_write n (ws ++ us) ≡ last_write n ws
last_write-quiet n [] [] all = refl
last_write-quiet n [] (u ∷ us) all = λ i. option_or (last_write-quiet (n + 1) [] us all.1 i) (cond (is_some (all.0 i)) (Some n) None)
last_write-quiet n (w ∷ ws) us all = ap (λ o. option_or o (cond (is_some w) (Some n) None)) (last_write-quiet (n + 1) ws us all)

-- a is the number answered
pub settled : {V : Type 0} (ws : List (Option (Option V))) (n a : ℕ) → n ≤ a → a ≤ length ws → AllByRecursion IsUnwritten (drop a ws) → changed_since n (take a ws) ≡ changed_since n ws
settled ws n a le within all =
    sym (last_write-quiet (n + 1) (drop n (take a ws)) (drop a ws) all)
    ∙ ap (λ us. last_write (n + 1) us) (sym (drop-append-le n (take a ws) (drop a ws) (subst (λ m. n ≤ m) (sym (length-take-le a ws within)) le)) ∙ ap (λ us. drop n us) (take-append-drop a ws))

-- The newest committed version is newer than the snapshot exactly where a commit since has written the
-- key, and it is the last one, where nobody who asked and isn't answered has written it.
pub first_committer_wins : {V : Type 0} (at since : ℕ → Type 0) (number : Numbers) (base : Option V) (writes : List (Option (Option V))) (chain : List (ℕ × Option V)) (n answered : ℕ)
    → ShowsKey at since number base writes chain → since n → n ≤ answered → answered ≤ length writes → AllByRecursion IsUnwritten (drop answered writes)
    → newest_since number n chain ≡ changed_since n (take answered writes)
first_committer_wins at since number base writes chain n answered shows here le within all = shows.changes n here ∙ sym (settled writes n answered le within all)
