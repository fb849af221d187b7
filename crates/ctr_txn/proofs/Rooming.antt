-- Room for items, after a change of one session's transaction.
use Rattle.std.proofs.Common.{◌≡◌, ℕ, zero, suc, ◌+◌, ◌-◌, ◌≤◌, ◌<◌, Bool, true, false, List, [], ◌∷◌, Option, Some, None, sym, ◌∙◌, ap, subst, arith, length}
use Rattle.std.specs.Prelude.{slice_set, get_or, is_some, if◌then◌else◌}
use Rattle.std.proofs.lemmas.Bool.{false≢true}
use Rattle.std.specs.List.{sum_by}
use Rattle.std.proofs.lemmas.List.Sums.{sum_by-set, sum_by-cons}
use Rattle.ctr_meta.specs.Kept.{TablesKept}
use Rattle.ctr_txn.specs.Held.{TxnHeld, TxnsHeld, txn_of}
use Rattle.ctr_txn.specs.Rooms.{item_kept, items_kept, HasItemRoom, SpendsOne, GetsBack, StaysRoom}

-- room for one at most is kept for a session
pub one_item : (o : Option TxnHeld) → item_kept o ≤ 1
one_item None = omega arith
one_item (Some t) = elim t.item as (λ c. (if c then 1 else 0) ≤ 1) [ true ↦ omega arith | false ↦ omega arith ]

module _ (a b : TxnsHeld) (i : ℕ) (v : Option TxnHeld) (lt : i < length a.sessions) (set : b.sessions ≡ slice_set a.sessions i v) (cleaner : b.cleaner ≡ a.cleaner) where
  kept : items_kept b + item_kept (get_or a.sessions i None) ≡ items_kept a + item_kept v
  kept =
      let sum = sum_by-set item_kept a.sessions i v None lt in
      (λ j. sum_by item_kept (set j) + (if cleaner j then 1 else 0) + item_kept (get_or a.sessions i None))
      ∙ swapped (sum_by item_kept (slice_set a.sessions i v)) (if a.cleaner then 1 else 0) (item_kept (get_or a.sessions i None)) (sum_by item_kept a.sessions) (item_kept v) sum
    where
      swapped : (s c o t n : ℕ) → s + o ≡ t + n → s + c + o ≡ t + c + n
      swapped s c o t n is = omega (arith, is)

  pub spends_one : (t : TxnHeld) → get_or a.sessions i None ≡ Some t → t.item ≡ true → item_kept v ≡ 0 → SpendsOne a b
  spends_one t at has none k l left room =
      let sum = kept in
      let before : item_kept (get_or a.sessions i None) ≡ 1 = ap item_kept at ∙ ap (λ c. if c then 1 else 0) has in
      omega (arith, sum, before, none, left.1, room)

  pub room_lasts : item_kept v ≤ item_kept (get_or a.sessions i None) → (k l : TablesKept) → k.items_room ≤ l.items_room + 0 → HasItemRoom a k → HasItemRoom b l
  room_lasts fewer k l left room = let sum = kept in omega (arith, sum, fewer, left, room)

  pub stays_room : item_kept v ≤ item_kept (get_or a.sessions i None) → StaysRoom a b
  stays_room fewer k l left = room_lasts fewer k l left.1

  pub gets_back : item_kept (get_or a.sessions i None) ≡ 0 → item_kept v ≤ 1 → GetsBack a b
  gets_back none one k l left shorter room = let sum = kept in omega (arith, sum, none, one, left.2, shorter, room)

-- the cleaner's one item
pub cleaners_back : (a : TxnsHeld) (item : Bool) → a.cleaner ≡ false → item ≡ true → GetsBack a (record a { cleaner = item })
cleaners_back a item none some k l left shorter room =
    let before : items_kept a ≡ sum_by item_kept a.sessions + 0 = ap (λ c. sum_by item_kept a.sessions + (if c then 1 else 0)) none in
    let after : items_kept (record a { cleaner = item }) ≡ sum_by item_kept a.sessions + 1 = ap (λ c. sum_by item_kept a.sessions + (if c then 1 else 0)) some in
    omega (arith, before, after, left.2, shorter, room)

-- room is kept for nine items at most
pub nine_items : (a : TxnsHeld) → length a.sessions ≡ 8 → items_kept a ≤ 9
nine_items a eight = sum (sum_by item_kept a.sessions) (length a.sessions) (if a.cleaner then 1 else 0) (all a.sessions) eight (one a.cleaner)
  where
    one : (b : Bool) → (if b then 1 else 0) ≤ 1
    one true = omega arith
    one false = omega arith

    both : (m s n : ℕ) → m ≤ 1 → s ≤ n → m + s ≤ suc n
    both m s n one le = omega (arith, one, le)

    all : (xs : List (Option TxnHeld)) → sum_by item_kept xs ≤ length xs
    all [] = omega arith
    all (x ∷ xs) = subst (λ n. n ≤ suc (length xs)) (sym (sum_by-cons item_kept x xs)) (both (item_kept x) (sum_by item_kept xs) (length xs) (one_item x) (all xs))

    sum : (s n c : ℕ) → s ≤ n → n ≡ 8 → c ≤ 1 → s + c ≤ 9
    sum s n c le is one = omega (arith, le, is, one)

none_some : {A : Type 0} {x : A} → None ≡ Some x → ⊥
none_some is = false≢true (ap is_some is)

-- a session that keeps its room as it was
pub as_much : (o : Option TxnHeld) (t u : TxnHeld) → o ≡ Some t → u.item ≡ t.item → item_kept (Some u) ≤ item_kept o
as_much o t u is same =
    let before = ap item_kept is in
    let after : item_kept (Some u) ≡ item_kept (Some t) = ap (λ c. if c then 1 else 0) same in
    omega (arith, before, after)

-- nothing is changed
pub stays_alike : (a b : TxnsHeld) → b ≡ a → StaysRoom a b
stays_alike a b same k l left room = subst (λ c. HasItemRoom c l) (sym same) (omega (arith, left.1, room))

-- what is kept for one is kept for all
pub one_of_all : (xs : List (Option TxnHeld)) (i : ℕ) (t : TxnHeld) → get_or xs i None ≡ Some t → t.item ≡ true → 1 ≤ sum_by item_kept xs
one_of_all [] zero t at has = absurd (none_some at)
one_of_all [] (suc i) t at has = absurd (none_some at)
one_of_all (x ∷ xs) zero t at has =
    let first : item_kept x ≡ 1 = ap item_kept at ∙ ap (λ c. if c then 1 else 0) has in
    subst (λ n. 1 ≤ n) (sym (sum_by-cons item_kept x xs)) (among (item_kept x) (sum_by item_kept xs) first)
  where
    among : (m n : ℕ) → m ≡ 1 → 1 ≤ m + n
    among m n one = omega (arith, one)
one_of_all (x ∷ xs) (suc i) t at has = subst (λ n. 1 ≤ n) (sym (sum_by-cons item_kept x xs)) (behind (item_kept x) (sum_by item_kept xs) (one_of_all xs i t at has))
  where
    behind : (m n : ℕ) → 1 ≤ n → 1 ≤ m + n
    behind m n one = omega (arith, one)

-- room that is kept for a session is there for one item
pub sessions_room : (s : ℕ) (t : TxnHeld) (a : TxnsHeld) (k : TablesKept) → txn_of s a ≡ Some t → t.item ≡ true → HasItemRoom a k → 1 ≤ k.items_room
sessions_room s t a k at has room = let one = one_of_all a.sessions (s - 1) t at has in omega (arith, one, room)

-- and so is the cleaner's
pub cleaners_room : (a : TxnsHeld) (k : TablesKept) → a.cleaner ≡ true → HasItemRoom a k → 1 ≤ k.items_room
cleaners_room a k has room =
    let one : items_kept a ≡ sum_by item_kept a.sessions + 1 = ap (λ c. sum_by item_kept a.sessions + (if c then 1 else 0)) has in
    omega (arith, one, room)
