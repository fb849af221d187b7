-- Changes lie under locks, and what that gives.
use Rattle.std.proofs.Common.{◌≡◌, ◌⊎◌, ⊎_elim, inl, inr, ℕ, zero, suc, ◌+◌, ◌≤◌, ◌==◌, ℤ, Bool, true, false, cond, List, [], ◌∷◌, ◌++◌, drop, length, Option, Some, None, refl, sym, ◌∙◌, ap, subst, arith}
use Rattle.std.specs.Prelude.{unwrap_or, is_some, ◌&&◌, ◌||◌, slice_get}
use Rattle.std.specs.List.{AllByRecursion, list_any}
use Rattle.std.specs.Ordering.{nat_cmp, eq_by_cmp}
use Rattle.std.specs.FinMap.Entries.{find}
use Rattle.std.proofs.lemmas.Bool.{false≢true, true≢false, or_parts, eqb-true}
use Rattle.ctr_types.specs.declared.value.Row.{Row}
use Rattle.ctr_types.specs.declared.value.Schema.{Schema}
use Rattle.ctr_model.specs.declared.database.Change.{Change}
use Rattle.ctr_model.specs.declared.database.Change.TheVariants as change
use Rattle.ctr_model.specs.declared.state.KeyLock.{KeyLock}
use Rattle.ctr_model.specs.declared.state.State.{State}
use Rattle.ctr_model.specs.declared.state.Transaction.{Transaction}
use Rattle.ctr_model.specs.State.{same_name, has_name, with_transaction, without_transaction}
use Rattle.ctr_model.specs.Refusals.{others, first_session, is_lock_of, is_busy, has_lock, locked_by}
use Rattle.ctr_model.proofs.Sessions.{known, find-put-other, find-put-same, find-without-other}
use Rattle.ctr_versions.specs.Chains.{IsUnwritten}
use Rattle.ctr_versions.specs.Keys.{schema_change, row_change, left_by, schema_writes, row_writes, row_written}
use Rattle.ctr_versions.proofs.Keys.{same_text}
use Rattle.ctr_versions.proofs.Conflicts.{quiet_from}
use Rattle.ctr_versions.proofs.Written.{left_same, row_miss, schema_apart}
use Rattle.ctr_legal.specs.Cover.{IsCovered, HasAsked, ArePending}

-- ---- lists of names and locks

pub less_any : {X : Type 0} (test : X → Bool) (xs : List X) (x : X) → list_any test (xs ++ x ∷ []) ≡ false → list_any test xs ≡ false
less_any test [] x none = refl
less_any test (y ∷ ys) x none =
    let parts = or_parts (test y) (list_any test (ys ++ x ∷ [])) none in
    (λ i. parts.0 i || less_any test ys x parts.1 i)

-- a transaction with no lock or name less, and the same changes
pub covered_more : (t u : Transaction) → u.own ≡ t.own → ((name : List ℕ) (key : ℤ) → has_lock name key u ≡ false → has_lock name key t ≡ false) → ((name : List ℕ) → has_name name u.uses ≡ false → has_name name t.uses ≡ false)
    → ((name : List ℕ) → has_name name u.holds ≡ false → has_name name t.holds ≡ false) → IsCovered t → IsCovered u
covered_more t u own locks uses holds covered = record {
  rows = λ name key free unheld. ap (left_by (row_change name key)) own ∙ covered.rows name key (locks name key free) (holds name unheld);
  uses = λ name key unused unheld. ap (left_by (row_change name key)) own ∙ covered.uses name key (uses name unused) (holds name unheld);
  names = λ name unheld. ap (left_by (schema_change name)) own ∙ covered.names name (holds name unheld);
}

-- a key's lock and a use are added
pub covered_lock : (t : Transaction) (lock : KeyLock) (name : List ℕ) → IsCovered t → IsCovered (record t { writer = true; locks = t.locks ++ lock ∷ []; uses = t.uses ++ name ∷ [] })
covered_lock t lock name covered = covered_more t (record t { writer = true; locks = t.locks ++ lock ∷ []; uses = t.uses ++ name ∷ [] }) refl
    (λ other key none. less_any (is_lock_of other key) t.locks lock none) (λ other none. less_any (λ n. same_name n other) t.uses name none) (λ other none. none) covered

pub covered_hold : (t : Transaction) (name : List ℕ) → IsCovered t → IsCovered (record t { writer = true; holds = t.holds ++ name ∷ [] })
covered_hold t name covered = covered_more t (record t { writer = true; holds = t.holds ++ name ∷ [] }) refl
    (λ other key none. none) (λ other none. none) (λ other none. less_any (λ n. same_name n other) t.holds name none) covered

-- a row under a lock is written
pub covered_write : (t : Transaction) (table : List ℕ) (key : ℤ) (v : Option Row) → has_lock table key t ≡ true → has_name table t.uses ≡ true → IsCovered t → IsCovered (record t { own = t.own ++ row_written table key v ∷ [] })
covered_write t table key v locked used covered = record {
  rows = λ name k free unheld. left_same (row_change name k) t.own (row_written table key v) (row_miss table name key k v (λ one two. false≢true (sym free ∙ (λ i. has_lock (one i) (two i) t) ∙ locked))) ∙ covered.rows name k free unheld;
  uses = λ name k unused unheld. left_same (row_change name k) t.own (row_written table key v) (row_miss table name key k v (λ one two. false≢true (sym unused ∙ ap (λ n. has_name n t.uses) one ∙ used))) ∙ covered.uses name k unused unheld;
  names = λ name unheld. left_same (schema_change name) t.own (row_written table key v) (schema_apart table name key v) ∙ covered.names name unheld;
}

-- ---- a session that nobody keeps from a name or a key

pub not_first : (test : Transaction → Bool) (es : List (ℕ × Transaction)) (r : ℕ) (u : Transaction) → first_session test es ≡ None → find nat_cmp r es ≡ Some u → test u ≡ false
not_first test [] r u none at = absurd (false≢true (ap is_some at))
not_first test (e ∷ es) r u none at = known (test e.1)
    (λ passes. absurd (true≢false (ap is_some (sym (ap (λ b. cond b (Some e.0) (first_session test es)) passes) ∙ none))))
    (λ fails. let rest = sym (ap (λ b. cond b (Some e.0) (first_session test es)) fails) ∙ none in
    known (eq_by_cmp nat_cmp r e.0)
    (λ here. ap test (sym (ap (λ o. unwrap_or o u) (sym (ap (λ b. cond b (Some e.1) (find nat_cmp r es)) here) ∙ at))) ∙ fails)
    (λ there. not_first test es r u rest (sym (ap (λ b. cond b (Some e.1) (find nat_cmp r es)) there) ∙ at)))

module _ (state : State) (s r : ℕ) (u : Transaction) (apart : (r == s) ≡ false) (at : find nat_cmp r state.sessions ≡ Some u) where
  pub other_passes : (test : Transaction → Bool) → first_session test (others s state) ≡ None → test u ≡ false
  other_passes test none = not_first test (others s state) r u none (find-without-other r s state.sessions apart ∙ at)

  -- nobody else has changed a key whose lock is free, under a name that nobody holds
  pub free_key : (schema : Bool) (name : List ℕ) (key : ℤ) → locked_by state s name key ≡ None → first_session (is_busy schema name) (others s state) ≡ None → IsCovered u
      → (left_by (schema_change name) u.own ≡ None) × (left_by (row_change name key) u.own ≡ None)
  free_key schema name key unlocked idle covered =
      let unheld = (or_parts (has_name name u.holds) (schema && has_name name u.uses) (other_passes (is_busy schema name) idle)).0 in
      (covered.names name unheld, covered.rows name key (other_passes (has_lock name key) unlocked) unheld)

  -- nobody else has changed a row of a table whose name nobody holds or uses
  pub free_name : (name : List ℕ) (key : ℤ) → first_session (is_busy true name) (others s state) ≡ None → IsCovered u → (left_by (schema_change name) u.own ≡ None) × (left_by (row_change name key) u.own ≡ None)
  free_name name key idle covered =
      let parts = or_parts (has_name name u.holds) (has_name name u.uses) (other_passes (is_busy true name) idle) in
      (covered.names name parts.0, covered.uses name key parts.1 parts.0)

-- ---- who asked and isn't answered

module _ (state : State) (s : ℕ) (t : Transaction) (at : find nat_cmp s state.sessions ≡ Some t) (unasked : t.asked ≡ None) (pending : ArePending state) (all : (r : ℕ) (u : Transaction) → find nat_cmp r state.sessions ≡ Some u → IsCovered u) where
  pub not_self : (r : ℕ) (u : Transaction) (k : ℕ) → find nat_cmp r state.sessions ≡ Some u → u.asked ≡ Some k → (r == s) ≡ false
  not_self r u k at_r asked = known (r == s)
      (λ one. absurd (true≢false (ap is_some (sym asked ∙ ap (λ (v : Transaction). v.asked) (ap (λ o. unwrap_or o u) (sym at_r ∙ ap (λ q. find nat_cmp q state.sessions) (eqb-true r s one) ∙ at)) ∙ unasked))))
      (λ two. two)

  -- they left a key alone that is free
  pub quiet_key : (schema : Bool) (name : List ℕ) (key : ℤ) → locked_by state s name key ≡ None → first_session (is_busy schema name) (others s state) ≡ None
      → AllByRecursion IsUnwritten (drop state.answered (schema_writes name state.asked)) × AllByRecursion IsUnwritten (drop state.answered (row_writes name key state.asked))
  quiet_key schema name key unlocked idle =
      let free : (j : ℕ) (own : List Change) → state.answered ≤ j → slice_get state.asked j ≡ Some own → (left_by (schema_change name) own ≡ None) × (left_by (row_change name key) own ≡ None) = λ j own le is.
      let p = pending j own le is in
      subst (λ (cs : List Change). (left_by (schema_change name) cs ≡ None) × (left_by (row_change name key) cs ≡ None)) p.1.same
      (free_key state s p.0 p.1.me (not_self p.0 p.1.me (j + 1) p.1.there p.1.asked) p.1.there schema name key unlocked idle (all p.0 p.1.me p.1.there)) in
      (quiet_from (left_by (schema_change name)) state.asked state.answered (λ j own le is. (free j own le is).0), quiet_from (left_by (row_change name key)) state.asked state.answered (λ j own le is. (free j own le is).1))

-- ---- they stay

-- a session that hasn't asked isn't one that has
module _ (state : State) (s : ℕ) where
  apart_pending : (A : Type 0) (own : List Change) (number : ℕ) (k : Option ℕ) → (k ≡ Some number → ⊥) → ((w : Transaction) → find nat_cmp s state.sessions ≡ Some w → w.asked ≡ k) → (p : (r : ℕ) × HasAsked state.sessions r own number) → ((p.0 == s) ≡ false → A) → A
  apart_pending A own number k not_this mine p other = known (p.0 == s)
      (λ one. absurd (not_this (sym (mine p.1.me (ap (λ q. find nat_cmp q state.sessions) (sym (eqb-true p.0 s one)) ∙ p.1.there)) ∙ p.1.asked)))
      (λ two. other two)

unasked_apart : (number : ℕ) → None ≡ Some number → ⊥
unasked_apart number is = false≢true (ap is_some is)

pub pending_put : (state : State) (s : ℕ) (u : Transaction) → ((w : Transaction) → find nat_cmp s state.sessions ≡ Some w → w.asked ≡ None) → ArePending state → ArePending (with_transaction s u state)
pending_put state s u unasked pending j own le is =
    let p = pending j own le is in
    apart_pending state s ((r : ℕ) × HasAsked (with_transaction s u state).sessions r own (j + 1)) own (j + 1) None (unasked_apart (j + 1)) unasked p
    (λ two. (p.0, record { me = p.1.me; there = find-put-other p.0 s u state.sessions two ∙ p.1.there; asked = p.1.asked; same = p.1.same }))

pub pending_without : (state : State) (s : ℕ) → ((w : Transaction) → find nat_cmp s state.sessions ≡ Some w → w.asked ≡ None) → ArePending state → ArePending (without_transaction s state)
pending_without state s unasked pending j own le is =
    let p = pending j own le is in
    apart_pending state s ((r : ℕ) × HasAsked (without_transaction s state).sessions r own (j + 1)) own (j + 1) None (unasked_apart (j + 1)) unasked p
    (λ two. (p.0, record { me = p.1.me; there = find-without-other p.0 s state.sessions two ∙ p.1.there; asked = p.1.asked; same = p.1.same }))

got_push : {X : Type 0} (xs : List X) (x y : X) (j : ℕ) → slice_get (xs ++ x ∷ []) j ≡ Some y → (slice_get xs j ≡ Some y) ⊎ ((j ≡ length xs) × (x ≡ y))
got_push [] x y zero is = inr (refl, ap (λ o. unwrap_or o x) is)
got_push [] x y (suc j) is = absurd (false≢true (ap is_some is))
got_push (z ∷ zs) x y zero is = inl is
got_push (z ∷ zs) x y (suc j) is = ⊎_elim (λ e. inl e) (λ e. inr (ap suc e.0, e.1)) (got_push zs x y j is)

pub pending_asked : (state : State) (s : ℕ) (t : Transaction) → find nat_cmp s state.sessions ≡ Some t → t.asked ≡ None → ArePending state
    → ArePending (with_transaction s (record t { asked = Some (length state.asked + 1) }) (record state { asked = state.asked ++ t.own ∷ [] }))
pending_asked state s t at unasked pending j own le is =
    let new : Transaction = record t { asked = Some (length state.asked + 1) } in
    let next : State = with_transaction s new (record state { asked = state.asked ++ t.own ∷ [] }) in
    ⊎_elim
    (λ before. let p = pending j own le before in
    apart_pending state s ((r : ℕ) × HasAsked next.sessions r own (j + 1)) own (j + 1) None (unasked_apart (j + 1)) (λ w at_w. ap (λ (v : Transaction). v.asked) (ap (λ o. unwrap_or o w) (sym at_w ∙ at)) ∙ unasked) p
    (λ two. (p.0, record { me = p.1.me; there = find-put-other p.0 s new state.sessions two ∙ p.1.there; asked = p.1.asked; same = p.1.same })))
    (λ last. (s, record { me = new; there = find-put-same s new state.sessions; asked = ap (λ n. Some (n + 1)) (sym last.0); same = last.1 }))
    (got_push state.asked t.own own j is)

pub pending_answered : (state : State) (s : ℕ) (t : Transaction) → find nat_cmp s state.sessions ≡ Some t → t.asked ≡ Some (state.answered + 1) → ArePending state → ArePending (without_transaction s (record state { answered = state.answered + 1 }))
pending_answered state s t at asked pending j own le is =
    let p = pending j own (omega (arith, le)) is in
    apart_pending state s ((r : ℕ) × HasAsked (without_transaction s (record state { answered = state.answered + 1 })).sessions r own (j + 1)) own (j + 1) (Some (state.answered + 1)) (λ same. too_late j (ap (λ o. unwrap_or o 0) same) le)
    (λ w at_w. ap (λ (v : Transaction). v.asked) (ap (λ o. unwrap_or o w) (sym at_w ∙ at)) ∙ asked) p
    (λ two. (p.0, record { me = p.1.me; there = find-without-other p.0 s state.sessions two ∙ p.1.there; asked = p.1.asked; same = p.1.same }))
  where
    too_late : (j : ℕ) → state.answered + 1 ≡ j + 1 → state.answered + 1 ≤ j → ⊥
    too_late j same le = omega (arith, same, le)

-- ---- a table under a held name is made or dropped

-- the change is of the table of this name alone
pub record IsOfName (name : List ℕ) (c : Change) : Type 0 where
  pub schema : (other : List ℕ) → same_name name other ≡ false → schema_change other c ≡ None
  pub rows : (other : List ℕ) (key : ℤ) → same_name name other ≡ false → row_change other key c ≡ None

pub create_of_name : (name : List ℕ) (schema : Schema) → IsOfName name (change.Create name schema)
create_of_name name schema = record {
  schema = λ other is. ap (λ b. cond b (Some (Some schema)) None) is;
  rows = λ other key is. ap (λ b. cond b (Some None) None) is;
}

pub drop_of_name : (name : List ℕ) → IsOfName name (change.Drop name)
drop_of_name name = record {
  schema = λ other is. ap (λ b. cond b (Some None) None) is;
  rows = λ other key is. ap (λ b. cond b (Some None) None) is;
}

pub covered_name : (t : Transaction) (name : List ℕ) (c : Change) → IsOfName name c → has_name name t.holds ≡ true → IsCovered t → IsCovered (record t { own = t.own ++ c ∷ [] })
covered_name t name c of_name held covered = record {
  rows = λ other key free unheld. left_same (row_change other key) t.own c (of_name.rows other key (apart other unheld)) ∙ covered.rows other key free unheld;
  uses = λ other key unused unheld. left_same (row_change other key) t.own c (of_name.rows other key (apart other unheld)) ∙ covered.uses other key unused unheld;
  names = λ other unheld. left_same (schema_change other) t.own c (of_name.schema other (apart other unheld)) ∙ covered.names other unheld;
}
  where
    apart : (other : List ℕ) → has_name other t.holds ≡ false → same_name name other ≡ false
    apart other unheld = known (same_name name other) (λ one. absurd (false≢true (sym unheld ∙ ap (λ n. has_name n t.holds) (sym (same_text name other one)) ∙ held))) (λ two. two)
