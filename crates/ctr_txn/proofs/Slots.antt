-- Sessions' transactions, after a change of one of them.
use Rattle.std.proofs.Common.{◌≡◌, ◌≢◌, ℕ, zero, suc, ◌+◌, ◌-◌, ◌≤◌, ◌<◌, ◌⊎◌, inl, inr, Bool, true, false, List, [], ◌∷◌, ◌++◌, length, Option, Some, None, refl, sym, ◌∙◌, ap, subst, arith, ⊎_elim}
use Rattle.std.specs.Prelude.{slice_set, slice_get, get_or, is_some, unwrap_or, is_none, nat_lt, ◌&&◌, if◌then◌else◌}
use Rattle.std.specs.List.{sum_by}
use Rattle.std.proofs.lemmas.Bool.{false≢true, cases_eq, lt-ltb}
use Rattle.std.proofs.lemmas.List.{length-set, length_push, set-get_or, get_or-set_same, get_or-set_other}
use Rattle.std.proofs.lemmas.List.Sums.{sum_by-set, sum_by-cons}
use Rattle.ctr_snap.specs.Seeing.{has}
use Rattle.ctr_versions.proofs.Keys.{some_is}
use Rattle.ctr_versions.proofs.Xids.{has_there}
use Rattle.ctr_txn.specs.declared.txn.Asked.{Asked}
use Rattle.ctr_txn.specs.Numbered.{NumbersHeld}
use Rattle.ctr_txn.specs.Held.{TxnHeld, TxnsHeld, IsAt, IsTxn, AreTxns, asks_of, may_ask, number_of_txn}
use Rattle.ctr_txn.specs.Steps.{KeepsNumbers, DrawsOne, AsksOne, txn_drawn, txn_asked}

-- a place of the list that was changed
at_set : (xs : List (Option TxnHeld)) (i j : ℕ) (v : Option TxnHeld) (t : TxnHeld) → i < length xs → IsAt (slice_set xs i v) j t → ((j ≡ i) × (v ≡ Some t)) ⊎ ((j ≢ i) × IsAt xs j t)
at_set xs i j v t lt at = ⊎_elim
    (λ same. inl (same, sym (get_or-set_same xs i v None lt) ∙ ap (λ k. get_or (slice_set xs i v) k None) (sym same) ∙ at))
    (λ apart. inr (apart, sym (get_or-set_other xs i j v None apart) ∙ at))
    (cases_eq j i)

-- no session may ask for more than one commit
at_most_one : (o : Option TxnHeld) → asks_of o ≤ 1
at_most_one None = omega arith
at_most_one (Some t) = elim (may_ask t) as (λ c. (if c then 1 else 0) ≤ 1) [ true ↦ omega arith | false ↦ omega arith ]

at_most : (xs : List (Option TxnHeld)) → sum_by asks_of xs ≤ length xs
at_most [] = omega arith
at_most (x ∷ xs) = subst (λ n. n ≤ suc (length xs)) (sym (sum_by-cons asks_of x xs)) (both (asks_of x) (sum_by asks_of xs) (length xs) (at_most_one x) (at_most xs))
  where
    both : (m s n : ℕ) → m ≤ 1 → s ≤ n → m + s ≤ suc n
    both m s n one le = omega (arith, one, le)

and_none : (b : Bool) → (b && false) ≡ false
and_none true = refl
and_none false = refl

none_some : {A : Type 0} {x : A} → None ≡ Some x → ⊥
none_some is = false≢true (ap is_some is)

module _ (a b : TxnsHeld) (inv : AreTxns a) (i : ℕ) (lt : i < 8) (v : Option TxnHeld) (set : b.sessions ≡ slice_set a.sessions i v) where
  inside : i < length a.sessions
  inside = subst (λ n. i < n) (sym inv.eight) lt

  at_b : (j : ℕ) (t : TxnHeld) → IsAt b.sessions j t → ((j ≡ i) × (v ≡ Some t)) ⊎ ((j ≢ i) × IsAt a.sessions j t)
  at_b j t at = at_set a.sessions i j v t inside (subst (λ xs. IsAt xs j t) set at)

  still_at : (j : ℕ) (t : TxnHeld) → j ≢ i → IsAt a.sessions j t → IsAt b.sessions j t
  still_at j t apart at = ap (λ xs. get_or xs j None) set ∙ get_or-set_other a.sessions i j v None apart ∙ at

  now_at : (t : TxnHeld) → v ≡ Some t → IsAt b.sessions i t
  now_at t is = ap (λ xs. get_or xs i None) set ∙ get_or-set_same a.sessions i v None inside ∙ is

  pub sum_set : sum_by asks_of b.sessions + asks_of (get_or a.sessions i None) ≡ sum_by asks_of a.sessions + asks_of v
  sum_set = ap (λ xs. sum_by asks_of xs + asks_of (get_or a.sessions i None)) set ∙ sum_by-set asks_of a.sessions i v None inside

  -- what is to be shown of a change
  pub txns_set : b.numbers.first ≡ a.numbers.first → b.answered ≤ length b.numbers.commits
      → ((t : TxnHeld) → v ≡ Some t → IsTxn b.numbers b.answered t)
      → ((j : ℕ) (t : TxnHeld) → j ≢ i → IsAt a.sessions j t → IsTxn b.numbers b.answered t)
      → ((j : ℕ) (t u : TxnHeld) → v ≡ Some t → j ≢ i → IsAt a.sessions j u → 0 < t.session.me → t.session.me ≡ u.session.me → ⊥)
      → ((k : ℕ) → b.answered < k → k ≤ length b.numbers.commits → (j : ℕ) × (t : TxnHeld) × IsAt b.sessions j t × (number_of_txn t ≡ Some k))
      → sum_by asks_of b.sessions ≤ b.numbers.asks → AreTxns b
  txns_set first answered mine others apart waiting room = record {
    eight = ap length set ∙ length-set a.sessions i v ∙ inv.eight;
    answered = answered;
    first = subst (λ n. 0 < n) (sym first) inv.first;
    each = λ j t at. ⊎_elim (λ here. mine t here.1) (λ there. others j t there.0 there.1) (at_b j t at);
    apart = λ j k t u at_j at_k some same. two j k t u (at_b j t at_j) (at_b k u at_k) some same;
    waiting = waiting;
    room = room;
  }
    where
      two : (j k : ℕ) (t u : TxnHeld) → ((j ≡ i) × (v ≡ Some t)) ⊎ ((j ≢ i) × IsAt a.sessions j t) → ((k ≡ i) × (v ≡ Some u)) ⊎ ((k ≢ i) × IsAt a.sessions k u)
          → 0 < t.session.me → t.session.me ≡ u.session.me → j ≡ k
      two j k t u (inl one) (inl other) some same = one.0 ∙ sym other.0
      two j k t u (inl one) (inr other) some same = absurd (apart k t u one.1 other.0 other.1 some same)
      two j k t u (inr one) (inl other) some same = absurd (apart j u t other.1 one.0 one.1 (subst (λ x. 0 < x) same some) (sym same))
      two j k t u (inr one) (inr other) some same = inv.apart j k t u one.1 other.1 some same

  -- who waits still waits, where the one that changed didn't
  pub waits_still : ((t : TxnHeld) → IsAt a.sessions i t → number_of_txn t ≡ None) → (k : ℕ) → a.answered < k → k ≤ length a.numbers.commits → (j : ℕ) × (t : TxnHeld) × IsAt b.sessions j t × (number_of_txn t ≡ Some k)
  waits_still quiet k above within =
      let one = inv.waiting k above within in
      (one.0, one.1, still_at one.0 one.1 (λ same. none_some (sym (quiet one.1 (subst (λ j. IsAt a.sessions j one.1) same one.2)) ∙ one.3)) one.2, one.3)

  -- the numbers are as they were
  module _ (numbers : b.numbers ≡ a.numbers) (answered : b.answered ≡ a.answered) where
    same_txn : (t : TxnHeld) → IsTxn a.numbers a.answered t → IsTxn b.numbers b.answered t
    same_txn t is = subst (λ n. IsTxn n b.answered t) (sym numbers) (subst (λ n. IsTxn a.numbers n t) (sym answered) is)

    -- a transaction begins, ends, or is another that has the same number and asked for the same commit
    pub same_numbers : ((t : TxnHeld) → v ≡ Some t → IsTxn a.numbers a.answered t)
        → ((j : ℕ) (t u : TxnHeld) → v ≡ Some t → j ≢ i → IsAt a.sessions j u → 0 < t.session.me → t.session.me ≡ u.session.me → ⊥)
        → ((k : ℕ) → a.answered < k → k ≤ length a.numbers.commits → (j : ℕ) × (t : TxnHeld) × IsAt b.sessions j t × (number_of_txn t ≡ Some k))
        → asks_of v ≤ asks_of (get_or a.sessions i None) → AreTxns b
    same_numbers mine apart waiting fewer =
        let sum = sum_set in
        let room = inv.room in
        txns_set (ap (λ (n : NumbersHeld). n.first) numbers) (subst (λ n. n ≤ length b.numbers.commits) (sym answered) (subst (λ (n : NumbersHeld). a.answered ≤ length n.commits) (sym numbers) inv.answered))
        (λ t is. same_txn t (mine t is)) (λ j t isnt at. same_txn t (inv.each j t at)) apart
        (λ k above within. waiting k (subst (λ n. n < k) answered above) (subst (λ (n : NumbersHeld). k ≤ length n.commits) numbers within))
        (subst (λ (n : NumbersHeld). sum_by asks_of b.sessions ≤ n.asks) (sym numbers) (omega (arith, sum, room, fewer)))

    -- one is another with the same number, that asked for the same commit
    pub alike_txns : (t u : TxnHeld) → IsAt a.sessions i t → u.session.me ≡ t.session.me → u.asked ≡ t.asked → v ≡ Some u → AreTxns b
    alike_txns t u at me asks is = same_numbers
        (λ w e. subst (IsTxn a.numbers a.answered) (some_is u w (sym is ∙ e)) mine)
        (λ j w z e isnt there some same.
        let his : w.session.me ≡ t.session.me = ap (λ (y : TxnHeld). y.session.me) (sym (some_is u w (sym is ∙ e))) ∙ me in
        isnt (inv.apart j i z t there at (subst (λ n. 0 < n) same some) (sym same ∙ his)))
        (λ k above within.
        let one = inv.waiting k above within in
        ⊎_elim
        (λ same.
        let that : one.1 ≡ t = some_is one.1 t (sym (subst (λ j. IsAt a.sessions j one.1) same one.2) ∙ at) in
        (i, u, now_at u is, asked_as u t asks ∙ sym (ap number_of_txn that) ∙ one.3))
        (λ apart. (one.0, one.1, still_at one.0 one.1 apart one.2, one.3))
        (cases_eq one.0 i))
        (omega (arith, ap asks_of is ∙ may_as u t me asks ∙ sym (ap asks_of at)))
      where
        asked_as : (u t : TxnHeld) → u.asked ≡ t.asked → number_of_txn u ≡ number_of_txn t
        asked_as u t same = ap (λ (o : Option Asked). number_of_txn (record t { asked = o })) same

        may_as : (u t : TxnHeld) → u.session.me ≡ t.session.me → u.asked ≡ t.asked → asks_of (Some u) ≡ asks_of (Some t)
        may_as u t me same = λ j. if nat_lt 0 (me j) && is_none (same j) then 1 else 0

        mine : IsTxn a.numbers a.answered u
        mine = let was = inv.each i t at in record {
          drawn = λ some. let both = was.drawn (subst (λ n. 0 < n) me some) in (subst (λ n. a.numbers.first ≤ n) (sym me) both.0, subst (λ n. n < a.numbers.next) (sym me) both.1);
          unasked = λ none some. ap (λ n. has n a.numbers.commits) me ∙ was.unasked (sym asks ∙ none) (subst (λ n. 0 < n) me some);
          asked = λ q e. let all = was.asked q (sym asks ∙ e) in (all.0, subst (λ n. 0 < n) (sym me) all.1, all.2 ∙ ap (λ n. Some n) (sym me));
        }

    -- one ends that didn't ask
    pub ended_txns : ((t : TxnHeld) → IsAt a.sessions i t → t.asked ≡ None) → v ≡ None → AreTxns b
    ended_txns quiet is = same_numbers
        (λ w e. absurd (none_some (sym is ∙ e)))
        (λ j w z e isnt there some same. none_some (sym is ∙ e))
        (waits_still (λ t at. ap (λ (o : Option Asked). number_of_txn (record t { asked = o })) (quiet t at)))
        (let none = ap asks_of is in omega (arith, none))

    -- one begins
    pub begun_txns : (u : TxnHeld) → get_or a.sessions i None ≡ None → u.session.me ≡ 0 → u.asked ≡ None → v ≡ Some u → AreTxns b
    begun_txns u out me none is = same_numbers
        (λ w e. subst (IsTxn a.numbers a.answered) (some_is u w (sym is ∙ e)) (record {
          drawn = λ some. absurd (positive u.session.me some me);
          unasked = λ quiet some. absurd (positive u.session.me some me);
          asked = λ q e. absurd (none_some (sym none ∙ e));
        }))
        (λ j w z e isnt there some same. positive w.session.me some (ap (λ (y : TxnHeld). y.session.me) (sym (some_is u w (sym is ∙ e))) ∙ me))
        (waits_still (λ t at. absurd (none_some (sym out ∙ at))))
        (let before = ap asks_of out in let after = ap asks_of is ∙ quiet in omega (arith, before, after))
      where
        positive : (n : ℕ) → 0 < n → n ≡ 0 → ⊥
        positive n some zero_ = omega (arith, some, zero_)

        quiet : asks_of (Some u) ≡ 0
        quiet = ap (λ n. if nat_lt 0 n && is_none u.asked then 1 else 0) me

  -- the next number is drawn
  module _ (draws : DrawsOne a.numbers b.numbers) (answered : b.answered ≡ a.answered) where
    drawn_txn : (t : TxnHeld) → IsTxn a.numbers a.answered t → IsTxn b.numbers b.answered t
    drawn_txn t is = record {
      drawn = λ some. let both = is.drawn some in (subst (λ n. n ≤ t.session.me) (sym draws.first) both.0, omega (arith, both.1, draws.next));
      unasked = λ none some. ap (has t.session.me) draws.commits ∙ is.unasked none some;
      asked = λ q e. let all = is.asked q e in (subst (λ n. n < q.k) (sym answered) all.0, all.1, ap (λ cs. slice_get cs (q.k - 1)) draws.commits ∙ all.2);
    }

    pub drawn_txns : (t : TxnHeld) → IsAt a.sessions i t → t.asked ≡ None → v ≡ Some (txn_drawn a.numbers.next t)
        → a.numbers.first ≤ a.numbers.next → has a.numbers.next a.numbers.commits ≡ false → 8 ≤ b.numbers.asks → AreTxns b
    drawn_txns t at none is from fresh room =
        txns_set draws.first (subst (λ n. n ≤ length b.numbers.commits) (sym answered) (subst (λ cs. a.answered ≤ length cs) (sym draws.commits) inv.answered))
        (λ u e. subst (IsTxn b.numbers b.answered) (some_is (txn_drawn a.numbers.next t) u (sym is ∙ e)) mine)
        (λ j u isnt there. drawn_txn u (inv.each j u there))
        (λ j u w e isnt there some same.
        let next : w.session.me ≡ a.numbers.next = sym same ∙ sym (ap (λ (z : TxnHeld). z.session.me) (some_is (txn_drawn a.numbers.next t) u (sym is ∙ e))) in
        let below = ((inv.each j w there).drawn (subst (λ n. 0 < n) same some)).1 in
        omega (arith, below, next))
        (λ k above within. waits_still (λ u there. ap number_of_txn (some_is u t (sym there ∙ at)) ∙ unasked_none) k (subst (λ n. n < k) answered above) (subst (λ cs. k ≤ length cs) draws.commits within))
        (let most = at_most b.sessions in let long = ap length set ∙ length-set a.sessions i v ∙ inv.eight in omega (arith, most, long, room))
      where
        unasked_none : number_of_txn t ≡ None
        unasked_none = ap (λ (o : Option Asked). number_of_asked o) none
          where
            number_of_asked : Option Asked → Option ℕ
            number_of_asked o = number_of_txn (record t { asked = o })

        mine : IsTxn b.numbers b.answered (txn_drawn a.numbers.next t)
        mine = record {
          drawn = λ some. (subst (λ n. n ≤ a.numbers.next) (sym draws.first) from, omega (arith, draws.next));
          unasked = λ e some. ap (has a.numbers.next) draws.commits ∙ fresh;
          asked = λ q e. absurd (none_some (sym none ∙ e));
        }

  -- a commit is asked for
  module _ (q : Asked) (t : TxnHeld) (asks : AsksOne t.session.me a.numbers b.numbers) (answered : b.answered ≡ a.answered) (k_is : q.k ≡ length a.numbers.commits + 1) where
    front : (xs : List ℕ) (x n y : ℕ) → slice_get xs n ≡ Some y → slice_get (xs ++ x ∷ []) n ≡ Some y
    front [] x n y is = absurd (none_some is)
    front (z ∷ zs) x zero y is = is
    front (z ∷ zs) x (suc n) y is = front zs x n y is

    last : (xs : List ℕ) (x : ℕ) → slice_get (xs ++ x ∷ []) (length xs) ≡ Some x
    last [] x = refl
    last (z ∷ zs) x = last zs x

    longer : length b.numbers.commits ≡ length a.numbers.commits + 1
    longer = ap (λ cs. length cs) asks.commits ∙ length_push a.numbers.commits t.session.me

    asked_txn : (u : TxnHeld) → u.session.me ≢ t.session.me → IsTxn a.numbers a.answered u → IsTxn b.numbers b.answered u
    asked_txn u isnt is = record {
      drawn = λ some. let both = is.drawn some in (subst (λ n. n ≤ u.session.me) (sym asks.first) both.0, subst (λ n. u.session.me < n) (sym asks.next) both.1);
      unasked = λ none some. ap (has u.session.me) asks.commits ∙ has_there t.session.me u.session.me a.numbers.commits isnt ∙ is.unasked none some;
      asked = λ p e. let all = is.asked p e in (subst (λ n. n < p.k) (sym answered) all.0, all.1, ap (λ cs. slice_get cs (p.k - 1)) asks.commits ∙ front a.numbers.commits t.session.me (p.k - 1) u.session.me all.2);
    }

    pub asked_txns : IsAt a.sessions i t → 0 < t.session.me → t.asked ≡ None → v ≡ Some (txn_asked q t) → a.numbers.asks ≡ b.numbers.asks + 1 → AreTxns b
    asked_txns at some none is room =
        let most = inv.answered in
        txns_set asks.first (omega (arith, answered, longer, most))
        (λ u e. subst (IsTxn b.numbers b.answered) (some_is (txn_asked q t) u (sym is ∙ e)) mine)
        (λ j u isnt there. asked_txn u (λ same. isnt (inv.apart j i u t there at (subst (λ n. 0 < n) (sym same) some) same)) (inv.each j u there))
        (λ j u w e isnt there positive same. isnt (inv.apart j i w t there at (subst (λ n. 0 < n) same positive) (sym same ∙ sym (ap (λ (z : TxnHeld). z.session.me) (some_is (txn_asked q t) u (sym is ∙ e))))))
        (λ k above within. ⊎_elim
        (λ le. waits_still (λ u there. ap number_of_txn (some_is u t (sym there ∙ at)) ∙ unasked_none) k (subst (λ n. n < k) answered above) le)
        (λ new. (i, txn_asked q t, now_at (txn_asked q t) is, ap (λ n. Some n) (k_is ∙ sym new)))
        (old_or_new k within))
        (let sum = sum_set in let sums = inv.room in let before = asks_before in let after = asks_after in omega (arith, sum, sums, before, after, room))
      where
        unasked_none : number_of_txn t ≡ None
        unasked_none = ap (λ (o : Option Asked). number_of_asked o) none
          where
            number_of_asked : Option Asked → Option ℕ
            number_of_asked o = number_of_txn (record t { asked = o })

        old_or_new : (k : ℕ) → k ≤ length b.numbers.commits → (k ≤ length a.numbers.commits) ⊎ (k ≡ length a.numbers.commits + 1)
        old_or_new k within = ⊎_elim (λ same. inr same) (λ isnt. inl (omega (arith, longer, within, isnt))) (cases_eq k (length a.numbers.commits + 1))

        asks_before : asks_of (get_or a.sessions i None) ≡ 1
        asks_before = ap asks_of at ∙ (λ j. if nat_lt 0 t.session.me && is_none (none j) then 1 else 0) ∙ ap (λ c. if c && true then 1 else 0) (lt-ltb 0 t.session.me some)

        asks_after : asks_of v ≡ 0
        asks_after = ap asks_of is ∙ ap (λ c. if c then 1 else 0) (and_none (nat_lt 0 t.session.me))

        mine : IsTxn b.numbers b.answered (txn_asked q t)
        mine = let most = inv.answered in record {
          drawn = λ positive. let both = (inv.each i t at).drawn positive in (subst (λ n. n ≤ t.session.me) (sym asks.first) both.0, subst (λ n. t.session.me < n) (sym asks.next) both.1);
          unasked = λ e positive. absurd (none_some (sym e));
          asked = λ p e.
              let k : p.k ≡ length a.numbers.commits + 1 = sym (ap (λ (z : Asked). z.k) (some_is q p e)) ∙ k_is in
              (omega (arith, answered, k, most), some, ap (λ cs. slice_get cs (p.k - 1)) asks.commits ∙ ap (slice_get (a.numbers.commits ++ t.session.me ∷ [])) (before_one (length a.numbers.commits) p.k k) ∙ last a.numbers.commits t.session.me);
        }
          where
            before_one : (n m : ℕ) → m ≡ n + 1 → m - 1 ≡ n
            before_one n m is = omega (arith, is)

  -- a commit is answered
  module _ (q : Asked) (t : TxnHeld) (numbers : b.numbers ≡ a.numbers) (answered : b.answered ≡ a.answered + 1) where
    pub answered_txns : IsAt a.sessions i t → t.asked ≡ Some q → q.k ≡ a.answered + 1 → q.k ≤ length a.numbers.commits → v ≡ None → AreTxns b
    answered_txns at is_q k within is =
        txns_set (ap (λ (n : NumbersHeld). n.first) numbers) (subst (λ (n : NumbersHeld). b.answered ≤ length n.commits) (sym numbers) (omega (arith, answered, k, within)))
        (λ u e. absurd (none_some (sym is ∙ e)))
        (λ j u isnt there. subst (λ n. IsTxn n b.answered u) (sym numbers) (other j u isnt there (inv.each j u there)))
        (λ j u w e isnt there some same. none_some (sym is ∙ e))
        (λ k2 above below.
        let one = inv.waiting k2 (omega (arith, answered, above)) (subst (λ (n : NumbersHeld). k2 ≤ length n.commits) numbers below) in
        (one.0, one.1, still_at one.0 one.1 (λ same. not_he k2 above one.1 (subst (λ j. IsAt a.sessions j one.1) same one.2) one.3) one.2, one.3))
        (let sum = sum_set in let sums = inv.room in let after = ap asks_of is in subst (λ (n : NumbersHeld). sum_by asks_of b.sessions ≤ n.asks) (sym numbers) (omega (arith, sum, sums, after)))
      where
        mine : (answered : ℕ) × (slice_get a.numbers.commits (q.k - 1) ≡ Some t.session.me)
        mine = (0, ((inv.each i t at).asked q is_q).2)

        not_he : (k2 : ℕ) → b.answered < k2 → (u : TxnHeld) → IsAt a.sessions i u → number_of_txn u ≡ Some k2 → ⊥
        not_he k2 above u there number =
            let his : number_of_txn t ≡ Some q.k = ap (λ (o : Option Asked). number_of_txn (record t { asked = o })) is_q in
            let same : q.k ≡ k2 = ap (λ (o : Option ℕ). unwrap_or o 0) (sym his ∙ ap number_of_txn (some_is t u (sym at ∙ there)) ∙ number) in
            omega (arith, answered, above, k, same)

        other : (j : ℕ) (u : TxnHeld) → j ≢ i → IsAt a.sessions j u → IsTxn a.numbers a.answered u → IsTxn a.numbers b.answered u
        other j u isnt there is_u = record {
          drawn = is_u.drawn;
          unasked = is_u.unasked;
          asked = λ p e. let all = is_u.asked p e in (above p (all.0) (λ same. isnt (inv.apart j i u t there at all.1 (some_is u.session.me t.session.me (sym all.2 ∙ ap (λ n. slice_get a.numbers.commits (n - 1)) same ∙ mine.1)))), all.1, all.2);
        }
          where
            above : (p : Asked) → a.answered < p.k → (p.k ≡ q.k → ⊥) → b.answered < p.k
            above p lt isnt = ⊎_elim (λ same. absurd (isnt same)) (λ apart. omega (arith, lt, apart, answered, k)) (cases_eq p.k q.k)

-- room was taken
pub same_but_room : (a : TxnsHeld) (n : NumbersHeld) → AreTxns a → KeepsNumbers a.numbers n → a.numbers.asks ≤ n.asks → AreTxns (record a { numbers = n })
same_but_room a n inv keeps more = record {
  eight = inv.eight;
  answered = subst (λ cs. a.answered ≤ length cs) (sym keeps.commits) inv.answered;
  first = subst (λ x. 0 < x) (sym keeps.first) inv.first;
  each = λ i t at. let is = inv.each i t at in record {
    drawn = λ some. let both = is.drawn some in (subst (λ x. x ≤ t.session.me) (sym keeps.first) both.0, subst (λ x. t.session.me < x) (sym keeps.next) both.1);
    unasked = λ none some. ap (has t.session.me) keeps.commits ∙ is.unasked none some;
    asked = λ q e. let all = is.asked q e in (all.0, all.1, ap (λ cs. slice_get cs (q.k - 1)) keeps.commits ∙ all.2);
  };
  apart = inv.apart;
  waiting = λ k above within. inv.waiting k above (subst (λ cs. k ≤ length cs) keeps.commits within);
  room = let sums = inv.room in omega (arith, sums, more);
}

-- nobody is in a transaction, with one session more
pub nobody_more : (xs : List (Option TxnHeld)) (i : ℕ) → ((j : ℕ) → get_or xs j None ≡ None) → get_or (xs ++ None ∷ []) i None ≡ None
nobody_more [] zero none = refl
nobody_more [] (suc i) none = refl
nobody_more (x ∷ xs) zero none = none zero
nobody_more (x ∷ xs) (suc i) none = nobody_more xs i (λ j. none (suc j))

-- where nobody is in a transaction and nobody asked, all holds
pub none_are : (a : TxnsHeld) → length a.sessions ≡ 8 → ((i : ℕ) → get_or a.sessions i None ≡ None) → a.answered ≡ 0 → a.numbers.commits ≡ [] → 0 < a.numbers.first → AreTxns a
none_are a eight nobody answered commits first = record {
  eight = eight;
  answered = subst (λ n. n ≤ length a.numbers.commits) (sym answered) (omega arith);
  first = first;
  each = λ i t at. absurd (none_some (sym (nobody i) ∙ at));
  apart = λ i j t u at there some same. absurd (none_some (sym (nobody i) ∙ at));
  waiting = λ k above within. absurd (short k (length a.numbers.commits) a.answered above within (ap (λ cs. length cs) commits));
  room = subst (λ n. n ≤ a.numbers.asks) (sym (no_asks a.sessions nobody)) (omega arith);
}
  where
    short : (k n m : ℕ) → m < k → k ≤ n → n ≡ 0 → ⊥
    short k n m above within none = omega (arith, above, within, none)

    no_asks : (xs : List (Option TxnHeld)) → ((i : ℕ) → get_or xs i None ≡ None) → sum_by asks_of xs ≡ 0
    no_asks [] none = refl
    no_asks (x ∷ xs) none = sum_by-cons asks_of x xs ∙ both (asks_of x) (sum_by asks_of xs) (ap asks_of (none zero)) (no_asks xs (λ i. none (suc i)))
      where
        both : (m s : ℕ) → m ≡ 0 → s ≡ 0 → m + s ≡ 0
        both m s one others = omega (arith, one, others)

-- ---- what a call found at a place

-- what stands there doesn't hang on what would stand behind the end
pub found_at : (xs : List (Option TxnHeld)) (i : ℕ) (d v : Option TxnHeld) → i < length xs → v ≡ get_or xs i d → get_or xs i None ≡ v
found_at [] i d v lt is = absurd (beyond i lt)
  where
    beyond : (i : ℕ) → i < 0 → ⊥
    beyond i lt = omega (arith, lt)
found_at (x ∷ xs) zero d v lt is = sym is
found_at (x ∷ xs) (suc i) d v lt is = found_at xs i d v (omega (arith, lt)) is

-- what stands at a place is put there again
pub put_again : (a : TxnsHeld) (i : ℕ) (v : Option TxnHeld) → v ≡ get_or a.sessions i v → AreTxns a → AreTxns (record a { sessions = slice_set a.sessions i v })
put_again a i v value inv = subst (λ xs. AreTxns (record a { sessions = xs })) (sym (ap (slice_set a.sessions i) value ∙ set-get_or a.sessions i v)) inv
