-- Who is found first is the model's, by what each session's test gives.
use Rattle.std.proofs.Common.{◌≡◌, ℕ, ℤ, Bool, true, false, cond, not, T, List, [], ◌∷◌, map, Option, Some, None, refl, sym, ◌∙◌, ap, subst}
use Rattle.std.specs.Prelude.{◌&&◌, ◌||◌, unwrap_or, nat_eq}
use Rattle.std.specs.Option.{option_map}
use Rattle.std.specs.Ordering.{nat_cmp, eq_by_cmp, is_lt}
use Rattle.std.specs.Cmp.{nat_cmp_total}
use Rattle.std.specs.FinMap.Entries.{find, below_all, is_sorted, is_sorted-where_key, same_entries}
use Rattle.std.proofs.lemmas.Bool.{false≢true, eqb-true}
use Rattle.std.proofs.lemmas.Map.Lookups.{exact_unsigned}
use Rattle.ctr_model.specs.declared.state.State.{State}
use Rattle.ctr_model.specs.declared.state.Transaction.{Transaction}
use Rattle.ctr_model.specs.Maps.{without}
use Rattle.ctr_model.specs.State.{transaction_of}
use Rattle.ctr_model.specs.Refusals.{others, first_session, is_busy, has_lock}
use Rattle.ctr_model.proofs.Sessions.{known, find-without-other, find-without-same}
use Rattle.ctr_locks.specs.Held.{LocksOfSession, holds_nothing, locks_key, keeps_others_off, held_by_session, first_that}
use Rattle.ctr_locks.specs.Shows.{IsLockedIn, IsTheSame, BusyIsTheModels, LockedIsTheModels}
use Rattle.ctr_locks.proofs.Maps.{both, nat_exact}
use Rattle.ctr_locks.proofs.Sessions.{and_left, and_right, below_none}

abbrev Tests : Type 0
Tests = List (ℕ × Bool)

abbrev first_true : Tests → Option ℕ
first_true [] = None
first_true (e ∷ es) = cond e.1 (Some e.0) (first_true es)

-- ---- the tests that pass alone

abbrev passed : Tests → Tests
passed [] = []
passed (e ∷ es) = cond e.1 (e ∷ passed es) (passed es)

first_passed : (es : Tests) → first_true (passed es) ≡ first_true es
first_passed [] = refl
first_passed (e ∷ es) = known e.1
    (λ yes. ap (λ b. first_true (cond b (e ∷ passed es) (passed es))) yes ∙ ap (λ b. cond b (Some e.0) (first_true (passed es))) yes ∙ sym (ap (λ b. cond b (Some e.0) (first_true es)) yes))
    (λ no. ap (λ b. first_true (cond b (e ∷ passed es) (passed es))) no ∙ first_passed es ∙ sym (ap (λ b. cond b (Some e.0) (first_true es)) no))

below_passed : (x : ℕ) (es : Tests) → T (below_all nat_cmp x es) → T (below_all nat_cmp x (passed es))
below_passed x [] h = tt
below_passed x (e ∷ es) h =
    let here : T (is_lt (nat_cmp x e.0)) = and_left (is_lt (nat_cmp x e.0)) (below_all nat_cmp x es) h in
    let rest : T (below_all nat_cmp x (passed es)) = below_passed x es (and_right (is_lt (nat_cmp x e.0)) (below_all nat_cmp x es) h) in
    elim e.1 as (λ b. T (below_all nat_cmp x (cond b (e ∷ passed es) (passed es)))) [
      | true ↦ both (is_lt (nat_cmp x e.0)) (below_all nat_cmp x (passed es)) here rest
      | false ↦ rest
    ]

sorted_passed : (es : Tests) → T (is_sorted nat_cmp es) → T (is_sorted nat_cmp (passed es))
sorted_passed [] h = tt
sorted_passed (e ∷ es) h =
    let rest : T (is_sorted nat_cmp (passed es)) = sorted_passed es (and_right (below_all nat_cmp e.0 es) (is_sorted nat_cmp es) h) in
    elim e.1 as (λ b. T (is_sorted nat_cmp (cond b (e ∷ passed es) (passed es)))) [
      | true ↦ both (below_all nat_cmp e.0 (passed es)) (is_sorted nat_cmp (passed es)) (below_passed e.0 es (and_left (below_all nat_cmp e.0 es) (is_sorted nat_cmp es) h)) rest
      | false ↦ rest
    ]

abbrev when : Bool → Option Bool
when b = cond b (Some true) None

find_passed : (q : ℕ) (es : Tests) → T (is_sorted nat_cmp es) → find nat_cmp q (passed es) ≡ when (unwrap_or (find nat_cmp q es) false)
find_passed q [] h = refl
find_passed q (e ∷ es) h = known e.1
    (λ yes. ap (λ b. find nat_cmp q (cond b (e ∷ passed es) (passed es))) yes ∙ known (eq_by_cmp nat_cmp q e.0)
    (λ one. ap (λ b. cond b (Some e.1) (find nat_cmp q (passed es))) one ∙ ap (λ b. Some b) yes ∙ sym (ap (λ b. when (unwrap_or (cond b (Some e.1) (find nat_cmp q es)) false)) one ∙ ap when yes))
    (λ two. ap (λ b. cond b (Some e.1) (find nat_cmp q (passed es))) two ∙ find_passed q es (and_right (below_all nat_cmp e.0 es) (is_sorted nat_cmp es) h) ∙ sym (ap (λ b. when (unwrap_or (cond b (Some e.1) (find nat_cmp q es)) false)) two)))
    (λ no. ap (λ b. find nat_cmp q (cond b (e ∷ passed es) (passed es))) no ∙ known (eq_by_cmp nat_cmp q e.0)
    (λ one. find_passed q es (and_right (below_all nat_cmp e.0 es) (is_sorted nat_cmp es) h) ∙ ap (λ o. when (unwrap_or o false)) (ap (λ k. find nat_cmp k es) (nat_exact q e.0 one) ∙ below_none e.0 es (and_left (below_all nat_cmp e.0 es) (is_sorted nat_cmp es) h)) ∙ sym (ap (λ b. when (unwrap_or (cond b (Some e.1) (find nat_cmp q es)) false)) one ∙ ap when no))
    (λ two. find_passed q es (and_right (below_all nat_cmp e.0 es) (is_sorted nat_cmp es) h) ∙ sym (ap (λ b. when (unwrap_or (cond b (Some e.1) (find nat_cmp q es)) false)) two)))

alike_first : (a b : Tests) → T (is_sorted nat_cmp a) → T (is_sorted nat_cmp b) → ((q : ℕ) → unwrap_or (find nat_cmp q a) false ≡ unwrap_or (find nat_cmp q b) false) → first_true a ≡ first_true b
alike_first a b in_a in_b alike = sym (first_passed a)
    ∙ ap first_true (same_entries nat_cmp nat_cmp_total exact_unsigned (passed a) (passed b) (sorted_passed a in_a) (sorted_passed b in_b) (λ q. find_passed q a in_a ∙ ap when (alike q) ∙ sym (find_passed q b in_b)))
    ∙ first_passed b

-- ---- what a test gives for each session, in order

module _ {A : Type 0} (test : A → Bool) where
  abbrev tested : ℕ × A → ℕ × Bool
  tested e = (e.0, test e.1)

  below_tested : (x : ℕ) (es : List (ℕ × A)) → T (below_all nat_cmp x es) → T (below_all nat_cmp x (map tested es))
  below_tested x [] h = tt
  below_tested x (e ∷ es) h = both (is_lt (nat_cmp x e.0)) (below_all nat_cmp x (map tested es)) (and_left (is_lt (nat_cmp x e.0)) (below_all nat_cmp x es) h) (below_tested x es (and_right (is_lt (nat_cmp x e.0)) (below_all nat_cmp x es) h))

  sorted_tested : (es : List (ℕ × A)) → T (is_sorted nat_cmp es) → T (is_sorted nat_cmp (map tested es))
  sorted_tested [] h = tt
  sorted_tested (e ∷ es) h = both (below_all nat_cmp e.0 (map tested es)) (is_sorted nat_cmp (map tested es)) (below_tested e.0 es (and_left (below_all nat_cmp e.0 es) (is_sorted nat_cmp es) h)) (sorted_tested es (and_right (below_all nat_cmp e.0 es) (is_sorted nat_cmp es) h))

  find_tested : (q : ℕ) (es : List (ℕ × A)) → find nat_cmp q (map tested es) ≡ option_map test (find nat_cmp q es)
  find_tested q [] = refl
  find_tested q (e ∷ es) = elim (eq_by_cmp nat_cmp q e.0) as (λ b. cond b (Some (test e.1)) (find nat_cmp q (map tested es)) ≡ option_map test (cond b (Some e.1) (find nat_cmp q es))) [ true ↦ refl | false ↦ find_tested q es ]

first_held_is : (test : LocksOfSession → Bool) (es : List (ℕ × LocksOfSession)) → first_that test es ≡ first_true (map (tested test) es)
first_held_is test [] = refl
first_held_is test (e ∷ es) = ap (λ o. cond (test e.1) (Some e.0) o) (first_held_is test es)

first_session_is : (test : Transaction → Bool) (es : List (ℕ × Transaction)) → first_session test es ≡ first_true (map (tested test) es)
first_session_is test [] = refl
first_session_is test (e ∷ es) = ap (λ o. cond (test e.1) (Some e.0) o) (first_session_is test es)

abbrev test_of : (Transaction → Bool) → Option Transaction → Bool
test_of g o = unwrap_or (option_map g o) false

-- a test of what a session has, and one of its transaction, which agree of all others
first_alike : (f : LocksOfSession → Bool) (g : Transaction → Bool) → f holds_nothing ≡ false → (sessions : List (ℕ × LocksOfSession)) (state : State) (s : ℕ) → T (is_sorted nat_cmp sessions) → T (is_sorted nat_cmp state.sessions) → ((r : ℕ) → nat_eq r s ≡ false → f (held_by_session r sessions) ≡ test_of g (transaction_of state r)) → first_that f (without nat_cmp s sessions) ≡ first_session g (others s state)
first_alike f g nothing sessions state s in_a in_b agree = first_held_is f (without nat_cmp s sessions)
    ∙ alike_first (map (tested f) (without nat_cmp s sessions)) (map (tested g) (others s state))
    (sorted_tested f (without nat_cmp s sessions) (is_sorted-where_key nat_cmp (λ k. not (eq_by_cmp nat_cmp s k)) sessions in_a))
    (sorted_tested g (others s state) (is_sorted-where_key nat_cmp (λ k. not (eq_by_cmp nat_cmp s k)) state.sessions in_b))
    (λ q. ap (λ o. unwrap_or o false) (find_tested f q (without nat_cmp s sessions)) ∙ known (nat_eq q s)
    (λ one. subst (λ q. unwrap_or (option_map f (find nat_cmp q (without nat_cmp s sessions))) false ≡ unwrap_or (option_map g (find nat_cmp q (others s state))) false) (sym (eqb-true q s one))
    (ap (λ o. unwrap_or (option_map f o) false) (find-without-same s sessions) ∙ sym (ap (λ o. unwrap_or (option_map g o) false) (find-without-same s state.sessions))))
    (λ two. ap (λ o. unwrap_or (option_map f o) false) (find-without-other q s sessions two) ∙ of_held (find nat_cmp q sessions) ∙ agree q two ∙ sym (ap (λ o. unwrap_or (option_map g o) false) (find-without-other q s state.sessions two)))
    ∙ sym (ap (λ o. unwrap_or o false) (find_tested g q (others s state))))
    ∙ sym (first_session_is g (others s state))
  where
    of_held : (o : Option LocksOfSession) → unwrap_or (option_map f o) false ≡ f (unwrap_or o holds_nothing)
    of_held None = sym nothing
    of_held (Some h) = refl

-- ---- who keeps a session from a name

none_busy : (schema : Bool) → (false || (schema && false)) ≡ false
none_busy true = refl
none_busy false = refl

busy_same : (name_of : ℕ → List ℕ) (schema : Bool) (name : List ℕ) (h : LocksOfSession) (o : Option Transaction) → IsTheSame name_of h o → keeps_others_off schema name h ≡ test_of (is_busy schema name) o
busy_same name_of schema name h None none = (λ i. none.holds name i || (schema && none.uses name i)) ∙ none_busy schema
busy_same name_of schema name h (Some t) same = (λ i. same.holds name i || (schema && same.uses name i))

pub busy_is : BusyIsTheModels
busy_is name_of s schema name sessions state in_a in_b shows = first_alike (keeps_others_off schema name) (is_busy schema name) (none_busy schema) sessions state s in_a in_b
    (λ r two. busy_same name_of schema name (held_by_session r sessions) (transaction_of state r) (shows r))

-- ---- who has the lock of a key

locked_same : (name_of : ℕ → List ℕ) (entry : ℕ) (key : ℤ) (h : LocksOfSession) → ((e : ℕ) → locks_key e key h ≡ true → name_of e ≡ name_of entry → e ≡ entry) → (o : Option Transaction) → IsTheSame name_of h o → locks_key entry key h ≡ test_of (has_lock (name_of entry) key) o
locked_same name_of entry key h only None none = none.locks entry key
locked_same name_of entry key h only (Some t) same = known (locks_key entry key h)
    (λ yes. yes ∙ sym (same.locks entry key yes))
    (λ no. known (has_lock (name_of entry) key t)
    (λ has. absurd (false≢true (sym no ∙ here (same.locked (name_of entry) key has))))
    (λ not_has. no ∙ sym not_has))
  where
    here : IsLockedIn name_of (name_of entry) key h → locks_key entry key h ≡ true
    here at = subst (λ e. locks_key e key h ≡ true) (only at.entry at.locked at.named) at.locked

pub locked_is : LockedIsTheModels
locked_is name_of s entry key sessions state in_a in_b only shows = first_alike (locks_key entry key) (has_lock (name_of entry) key) refl sessions state s in_a in_b
    (λ r two. locked_same name_of entry key (held_by_session r sessions) (λ e has named. only r e two has named) (transaction_of state r) (shows r))
