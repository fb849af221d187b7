-- Who keeps a name from others: at open, over records, and over each kind of turn.
use Rattle.std.proofs.Common.{List, Some, [], ap, cond, false, inl, inr, not, refl, subst, sym, true, ℕ, ⊎_elim, ◌==◌, ◌∙◌, ◌∷◌, ◌≡◌, ◌⊎◌}
use Rattle.std.specs.FinMap.Entries.{find}
use Rattle.std.specs.Ordering.{nat_cmp}
use Rattle.std.specs.Prelude.{is_some, ◌||◌}
use Rattle.std.proofs.Math.Bool.{or-true}
use Rattle.std.proofs.lemmas.Bool.{eqb-true, false≢true}
use Rattle.ctr_record_laws.specs.model_Database.{Database}
use Rattle.ctr_record_laws.specs.model_Reply.{without_name}
use Rattle.ctr_record_laws.specs.model_State.{at_rest, has_name, same_name}
use Rattle.ctr_record_laws.specs.model_declared_state_State.{State}
use Rattle.ctr_record_laws.specs.model_Transaction.{Transaction}
use Rattle.ctr_record_laws.specs.versions_Engine.{SessionHeld}
use Rattle.ctr_record_laws.specs.versions_Laws.{IsNoSessions}
use Rattle.ctr_record_laws.proofs.versions_Keys.{known, same_text, some_is}
use Rattle.ctr_record_laws.proofs.versions_Written.{same_itself}
use Rattle.ctr_record_laws.specs.rec_SlogItem.{SlogItem}
use Rattle.ctr_record_laws.specs.rec_SlogItem.TheVariants.{AllocOf, CreateOf, DropOf, FreeOf}
use Rattle.ctr_record_laws.specs.area_Areas.{Title}
use Rattle.ctr_record_laws.specs.area_Sound.{IsSchemaItem}
use Rattle.ctr_record_laws.specs.Owed.{IsNameFreeFor}
use Rattle.ctr_record_laws.proofs.Named.{IsOfPage, alloc_of_page, free_of_page}
use Rattle.ctr_names.specs.Held.{HoldsNames, IsNameHeldBy, names_of_items}
use Rattle.ctr_names.proofs.Items.{behind_page, create_or, drop_or, further}

none_found : {X : Type 0} (s : ℕ) (x : X) → find nat_cmp s [] ≡ Some x → ⊥
none_found s x e = false≢true (ap is_some e)

has_more : (name other : List ℕ) (names : List (List ℕ)) → has_name name names ≡ true → has_name name (other ∷ names) ≡ true
has_more name other names is = ap (λ b. same_name other name || b) is ∙ or-true (same_name other name)

has_first : (name other : List ℕ) (names : List (List ℕ)) → other ≡ name → has_name name (other ∷ names) ≡ true
has_first name other names is = ap (λ n. same_name other n || has_name n names) (sym is) ∙ ap (λ b. b || has_name other names) (same_itself other)

-- ---- at open: recovery holds the names of all items

-- the names of items are those of the tables that they made or dropped
abbrev AreNames : (ℕ → Title) → List SlogItem → Type 0
AreNames title items = ((y f : ℕ) → IsSchemaItem y f items → has_name (title f).name (names_of_items title items) ≡ true)
    × ((name : List ℕ) → has_name name (names_of_items title items) ≡ true → (y : ℕ) × (f : ℕ) × IsSchemaItem y f items × ((title f).name ≡ name))

module _ (title : ℕ → Title) (is : List SlogItem) (rest : AreNames title is) where
  kept : (i : SlogItem) (name : List ℕ) → ((y : ℕ) × (f : ℕ) × IsSchemaItem y f is × ((title f).name ≡ name)) → (y : ℕ) × (f : ℕ) × IsSchemaItem y f (i ∷ is) × ((title f).name ≡ name)
  kept i name one = (one.0, one.1, further i is one.0 one.1 one.2, one.3)

  of_page : (i : SlogItem) → IsOfPage i → names_of_items title (i ∷ is) ≡ names_of_items title is → AreNames title (i ∷ is)
  of_page i page same = (
    λ y f item. ap (has_name (title f).name) same ∙ rest.0 y f (behind_page i is y f page item),
    λ name has_. kept i name (rest.1 name (ap (has_name name) (sym same) ∙ has_)),
  )

  of_entry : (i : SlogItem) (x e : ℕ) → IsSchemaItem x e (i ∷ is) → names_of_items title (i ∷ is) ≡ (title e).name ∷ names_of_items title is → ((y f : ℕ) → IsSchemaItem y f (i ∷ is) → ((y ≡ x) × (f ≡ e)) ⊎ IsSchemaItem y f is) → AreNames title (i ∷ is)
  of_entry i x e item names parts = (
    λ y f its. ap (has_name (title f).name) names ∙ ⊎_elim
        (λ same. has_first (title f).name (title e).name (names_of_items title is) (ap (λ g. (title g).name) (sym same.1)))
        (λ there. has_more (title f).name (title e).name (names_of_items title is) (rest.0 y f there)) (parts y f its),
    λ name has_. known (same_name (title e).name name)
        (λ same. (x, e, item, same_text (title e).name name same))
        (λ apart. kept i name (rest.1 name (sym (ap (λ b. b || has_name name (names_of_items title is)) apart) ∙ ap (has_name name) (sym names) ∙ has_))),
  )

  one_more : (i : SlogItem) → AreNames title (i ∷ is)
  one_more (AllocOf x p) = of_page (AllocOf x p) (alloc_of_page x p) refl
  one_more (FreeOf p) = of_page (FreeOf p) (free_of_page p) refl
  one_more (CreateOf x e) = of_entry (CreateOf x e) x e (inl (inl refl)) refl (create_or x e is)
  one_more (DropOf x e) = of_entry (DropOf x e) x e (inr (inl refl)) refl (drop_or x e is)

open_names : (title : ℕ → Title) (items : List SlogItem) → AreNames title items
open_names title [] = ((λ y f item. ⊎_elim (λ none. absurd none) (λ none. absurd none) item), (λ name is. absurd (false≢true is)))
open_names title (i ∷ is) = one_more title is (open_names title is) i

pub open_holds : (items : List SlogItem) (title : ℕ → Title) (base : Database) → HoldsNames items title [] (at_rest base (names_of_items title items))
open_holds items title base = record {
  owned = λ y f item. inr ((λ s b at. absurd (none_found s b at)), (open_names title items).0 y f item);
  left = λ name has_. let one = (open_names title items).1 name has_ in (one.0, one.1, one.2, one.3, λ s b at. absurd (none_found s b at));
}

-- ---- who is granted a name has it alone

pub name_alone : (items : List SlogItem) (title : ℕ → Title) (sessions : List (ℕ × SessionHeld)) (state : State) (s : ℕ) (session : SessionHeld) (name : List ℕ) → HoldsNames items title sessions state → find nat_cmp s sessions ≡ Some session
    → has_name name state.stuck ≡ false → ((r : ℕ) (u : Transaction) → (r == s) ≡ false → find nat_cmp r state.sessions ≡ Some u → has_name name u.holds ≡ false) → IsNameFreeFor session.me items title name
name_alone items title sessions state s session name held at free others y f item is = ⊎_elim
    (λ its. known (its.s == s)
    (λ one. sym its.me ∙ ap (λ (a : SessionHeld). a.me) (some_is its.session session (sym its.at ∙ ap (λ q. find nat_cmp q sessions) (eqb-true its.s s one) ∙ at)))
    (λ two. absurd (false≢true (sym (others its.s its.t two its.is_t) ∙ ap (λ n. has_name n its.t.holds) (sym is) ∙ its.holds))))
    (λ stuck. absurd (false≢true (sym free ∙ ap (λ n. has_name n state.stuck) (sym is) ∙ stuck.1)))
    (held.owned y f item)

-- ---- over a record

module _ (old new : List SlogItem) (title now : ℕ → Title) (sessions next : List (ℕ × SessionHeld)) (before after : State)
    (back : (y f : ℕ) → IsSchemaItem y f new → (IsSchemaItem y f old × ((now f).name ≡ (title f).name)) ⊎ IsNameHeldBy next after y (now f).name)
    (held : (y f : ℕ) → IsSchemaItem y f new → IsNameHeldBy sessions before y (title f).name → IsNameHeldBy next after y (title f).name)
    (nobodys : (y f : ℕ) → IsSchemaItem y f old → IsNoSessions sessions y → IsNoSessions next y) where
  -- recovery holds what it held: each item that is nobody's is still there
  pub holds_moved : ((y f : ℕ) → IsSchemaItem y f old → IsNoSessions sessions y → IsSchemaItem y f new × ((now f).name ≡ (title f).name)) → after.stuck ≡ before.stuck → HoldsNames old title sessions before → HoldsNames new now next after
  holds_moved still stuck holds = record {
    owned = λ y f item. ⊎_elim
        (λ was. ⊎_elim
        (λ its. inl (subst (IsNameHeldBy next after y) (sym was.1) (held y f item its)))
        (λ its. inr (nobodys y f was.0 its.0, (λ i. has_name (was.1 i) (stuck i)) ∙ its.1))
        (holds.owned y f was.0))
        (λ its. inl its) (back y f item);
    left = λ name has_. let one = holds.left name (ap (has_name name) (sym stuck) ∙ has_) in
        let kept = still one.0 one.1 one.2 one.4 in (one.0, one.1, kept.0, kept.1 ∙ one.3, nobodys one.0 one.1 one.2 one.4);
  }

  -- the last item of a name is undone, and recovery lets the name go
  pub holds_released : (name : List ℕ) → ((y f : ℕ) → IsSchemaItem y f old → IsNoSessions sessions y → same_name name (title f).name ≡ false → IsSchemaItem y f new × ((now f).name ≡ (title f).name))
      → ((y f : ℕ) → IsSchemaItem y f new → IsNoSessions sessions y → same_name name (title f).name ≡ false) → after.stuck ≡ without_name name before.stuck → HoldsNames old title sessions before → HoldsNames new now next after
  holds_released name still last stuck holds = record {
    owned = λ y f item. ⊎_elim
        (λ was. ⊎_elim
        (λ its. inl (subst (IsNameHeldBy next after y) (sym was.1) (held y f item its)))
        (λ its. inr (nobodys y f was.0 its.0, (λ i. has_name (was.1 i) (stuck i)) ∙ has_without (title f).name before.stuck its.1 (last y f item its.0)))
        (holds.owned y f was.0))
        (λ its. inl its) (back y f item);
    left = λ other has_. let its = without_has other before.stuck (ap (has_name other) (sym stuck) ∙ has_) in
        let one = holds.left other its.0 in
        let kept = still one.0 one.1 one.2 one.4 (ap (same_name name) one.3 ∙ its.1) in (one.0, one.1, kept.0, kept.1 ∙ one.3, nobodys one.0 one.1 one.2 one.4);
  }
    where
      has_without : (other : List ℕ) (names : List (List ℕ)) → has_name other names ≡ true → same_name name other ≡ false → has_name other (without_name name names) ≡ true
      has_without other [] is apart = absurd (false≢true is)
      has_without other (n ∷ ns) is apart = known (same_name n other)
          (λ here. ap (λ b. has_name other (cond (not b) (n ∷ without_name name ns) (without_name name ns))) (different n here) ∙ ap (λ b. b || has_name other (without_name name ns)) here)
          (λ there. let rest = has_without other ns (sym (ap (λ b. b || has_name other ns) there) ∙ is) apart in
          elim (same_name n name) as (λ b. has_name other (cond (not b) (n ∷ without_name name ns) (without_name name ns)) ≡ true) [ true ↦ rest | false ↦ has_more other n (without_name name ns) rest ])
        where
          different : (n : List ℕ) → same_name n other ≡ true → same_name n name ≡ false
          different n here = known (same_name n name)
              (λ same. absurd (false≢true (sym apart ∙ ap (λ m. same_name m other) (sym (same_text n name same)) ∙ here)))
              (λ isnt. isnt)

      without_has : (other : List ℕ) (names : List (List ℕ)) → has_name other (without_name name names) ≡ true → (has_name other names ≡ true) × (same_name name other ≡ false)
      without_has other [] is = absurd (false≢true is)
      without_has other (n ∷ ns) is = known (same_name n name)
          (λ gone. let rest = without_has other ns (sym (ap (λ b. has_name other (cond (not b) (n ∷ without_name name ns) (without_name name ns))) gone) ∙ is) in (has_more other n ns rest.0, rest.1))
          (λ stays. let now_is : has_name other (n ∷ without_name name ns) ≡ true = sym (ap (λ b. has_name other (cond (not b) (n ∷ without_name name ns) (without_name name ns))) stays) ∙ is in
          known (same_name n other)
          (λ here. (
            ap (λ b. b || has_name other ns) here,
            known (same_name name other)
                (λ same. absurd (false≢true (sym stays ∙ ap (same_name n) (same_text name other same) ∙ here)))
                (λ isnt. isnt),
          ))
          (λ there. let rest = without_has other ns (sym (ap (λ b. b || has_name other (without_name name ns)) there) ∙ now_is) in (has_more other n ns rest.0, rest.1)))
