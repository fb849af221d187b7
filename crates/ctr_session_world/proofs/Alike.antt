-- States that are alike to the locks, and locks in tables that stay.
use Rattle.std.proofs.Common.{◌≡◌, ⊎_elim, inl, inr, ℕ, Bool, true, false, List, [], ◌∷◌, ◌++◌, Option, Some, None, refl, sym, ◌∙◌, ap, subst, not}
use Rattle.std.specs.Prelude.{◌||◌}
use Rattle.std.specs.Ordering.{nat_cmp, eq_by_cmp}
use Rattle.std.specs.Cmp.{nat_cmp_total}
use Rattle.std.specs.FinMap.Entries.{is_sorted-put, is_sorted-where_key}
use Rattle.ctr_model.specs.declared.state.State.{State}
use Rattle.ctr_model.specs.declared.state.Transaction.{Transaction}
use Rattle.ctr_model.specs.State.{has_name, same_name, transaction_of, with_transaction, without_transaction}
use Rattle.ctr_legal.proofs.Cover.{less_any}
use Rattle.ctr_versions.proofs.Keys.{known}
use Rattle.std.proofs.lemmas.Bool.{false≢true}
use Rattle.ctr_model.specs.Refusals.{is_lock_of}
use Rattle.std.specs.List.{list_any}
use Rattle.ctr_area.specs.Areas.{Title}
use Rattle.ctr_area.specs.Sound.{IsAmong}
use Rattle.ctr_redo.specs.States.{State as Stored}
use Rattle.ctr_told.specs.record_effects_States.{area_in}
use Rattle.ctr_told.specs.actions_Facts.{Fact, HasTable}
use Rattle.ctr_locks.specs.Held.{LocksOfSession, held_by_session}
use Rattle.ctr_locks.specs.Shows.{ShowsKeyLocks, IsTheSame}
use Rattle.ctr_told.specs.Turning.{facts_idle}
use Rattle.ctr_session_world.specs.World.{IsInTable, AreInOrder}

-- the transaction uses, holds and locks the same
pub record IsAlike (t u : Transaction) : Type 0 where
  pub uses : (name : List ℕ) → has_name name u.uses ≡ has_name name t.uses
  pub holds : u.holds ≡ t.holds
  pub locks : u.locks ≡ t.locks

abbrev pub AreAlike : Option Transaction → Option Transaction → Type 0
AreAlike None None = Unit {0}
AreAlike None (Some u) = ⊥
AreAlike (Some t) None = ⊥
AreAlike (Some t) (Some u) = IsAlike t u

pub alike_itself : (o : Option Transaction) → AreAlike o o
alike_itself None = tt
alike_itself (Some t) = record { uses = λ name. refl; holds = refl; locks = refl }

-- what is there twice at the end is there
pub any_twice : {X : Type 0} (test : X → Bool) (xs : List X) (x : X) → list_any test ((xs ++ x ∷ []) ++ x ∷ []) ≡ list_any test (xs ++ x ∷ [])
any_twice test [] x = once (test x)
  where
    once : (b : Bool) → (b || (b || false)) ≡ (b || false)
    once true = refl
    once false = refl
any_twice test (y ∷ ys) x = ap (λ b. test y || b) (any_twice test ys x)

one_alike : (name_of : ℕ → List ℕ) (h : LocksOfSession) (o p : Option Transaction) → AreAlike o p → IsTheSame name_of h o → IsTheSame name_of h p
one_alike name_of h None None alike same = same
one_alike name_of h None (Some u) alike same = absurd alike
one_alike name_of h (Some t) None alike same = absurd alike
one_alike name_of h (Some t) (Some u) alike same = record {
  uses = λ name. same.uses name ∙ sym (alike.uses name);
  holds = λ name. same.holds name ∙ ap (has_name name) (sym alike.holds);
  locks = λ entry key is. ap (list_any (is_lock_of (name_of entry) key)) alike.locks ∙ same.locks entry key is;
  locked = λ name key is. same.locked name key (ap (list_any (is_lock_of name key)) (sym alike.locks) ∙ is);
}

-- so the locks show the one as the other
pub shows_alike : (name_of : ℕ → List ℕ) (sessions : List (ℕ × LocksOfSession)) (state now : State) → ((r : ℕ) → AreAlike (transaction_of state r) (transaction_of now r)) → ShowsKeyLocks name_of sessions state → ShowsKeyLocks name_of sessions now
shows_alike name_of sessions state now alike shows r = one_alike name_of (held_by_session r sessions) (transaction_of state r) (transaction_of now r) (alike r) (shows r)

-- sessions stand in order whatever one of them becomes
pub put_in_order : (s : ℕ) (t : Transaction) (state : State) → AreInOrder state → AreInOrder (with_transaction s t state)
put_in_order s t state = is_sorted-put nat_cmp nat_cmp_total s t state.sessions

pub gone_in_order : (s : ℕ) (state : State) → AreInOrder state → AreInOrder (without_transaction s state)
gone_in_order s state = is_sorted-where_key nat_cmp (λ k. not (eq_by_cmp nat_cmp s k)) state.sessions

-- a lock in a table stays one where the title does, and what is counted on of the table
pub in_table_still : (s t : Stored) (e : ℕ) (u v : Transaction) (facts now : List Fact) → (area_in t).title e ≡ (area_in s).title e → ((n : List ℕ) → has_name n u.holds ≡ true → has_name n v.holds ≡ true)
    → (IsAmong (HasTable e ((area_in s).title e)) facts → IsAmong (HasTable e ((area_in s).title e)) now) → IsInTable s e u facts → IsInTable t e v now
in_table_still s t e u v facts now same holds counts is = record {
  inside = is.inside;
  there = λ none. is.there (ap (λ (l : Title). l.state) (sym same) ∙ none);
  counted = ⊎_elim
      (λ held. inl (ap (λ (l : Title). has_name l.name v.holds) same ∙ holds ((area_in s).title e).name held))
      (λ counted. inr (subst (λ (l : Title). IsAmong (HasTable e l) now) (sym same) (counts counted)))
      is.counted;
}

-- a name more is held beside the others
pub held_more : (name other : List ℕ) (names : List (List ℕ)) → has_name name names ≡ true → has_name name (names ++ other ∷ []) ≡ true
held_more name other names is = known (has_name name (names ++ other ∷ [])) (λ yes. yes) (λ no. absurd (false≢true (sym (less_any (λ n. same_name n name) names other no) ∙ is)))

-- a table that is counted on between two statements is one of these
pub table_of_more : (e : ℕ) (title : Title) (more facts : List Fact) → facts ≡ facts_idle ++ more → IsAmong (HasTable e title) facts → IsAmong (HasTable e title) more
table_of_more e title more facts are in_ = by (subst (λ (l : List Fact). IsAmong (HasTable e title) l) are in_)
  where
    by : IsAmong (HasTable e title) (facts_idle ++ more) → IsAmong (HasTable e title) more
    by (inl is) = absurd cc
    by (inr (inl is)) = absurd cc
    by (inr (inr there)) = there
