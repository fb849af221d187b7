-- The names that recovery holds, and those of what is left of undo, as the last of these goes.
use Rattle.std.proofs.Common.{◌≡◌, ◌⊎◌, inl, inr, ⊎_elim, ℕ, true, false, cond, List, [], ◌∷◌, ◌++◌, sym, ◌∙◌, ap, subst}
use Rattle.std.specs.Prelude.{not, ◌||◌}
use Rattle.std.specs.List.{AllByRecursion}
use Rattle.std.proofs.Math.Bool.{or-true}
use Rattle.std.proofs.lemmas.Bool.{false≢true}
use Rattle.ctr_model.specs.Reply.{without_name}
use Rattle.ctr_model.specs.State.{has_name, same_name}
use Rattle.ctr_versions.proofs.Keys.{known, same_text}
use Rattle.ctr_versions.proofs.Written.{same_itself}
use Rattle.ctr_names.proofs.Catalog.{other_name}

pub all_front : {A : Type 0} (P : A → Type 0) (xs : List A) (x : A) → AllByRecursion P (xs ++ x ∷ []) → AllByRecursion P xs × P x
all_front P [] x all = (tt, all.0)
all_front P (y ∷ ys) x all = let rest = all_front P ys x all.1 in ((all.0, rest.0), rest.1)

has_more : (name other : List ℕ) (names : List (List ℕ)) → has_name name names ≡ true → has_name name (other ∷ names) ≡ true
has_more name other names is = ap (λ b. same_name other name || b) is ∙ or-true (same_name other name)

pub has_itself : (name : List ℕ) (names : List (List ℕ)) → has_name name (name ∷ names) ≡ true
has_itself name names = ap (λ b. b || has_name name names) (same_itself name)

-- each of some names is one of them
named_more : (other : List ℕ) (names ns : List (List ℕ)) → AllByRecursion (λ (n : List ℕ). has_name n names ≡ true) ns → AllByRecursion (λ (n : List ℕ). has_name n (other ∷ names) ≡ true) ns
named_more other names [] all = tt
named_more other names (n ∷ ns) all = (has_more n other names all.0, named_more other names ns all.1)

pub named_itself : (names : List (List ℕ)) → AllByRecursion (λ (n : List ℕ). has_name n names ≡ true) names
named_itself [] = tt
named_itself (n ∷ ns) = (has_itself n ns, named_more n ns ns (named_itself ns))

has_back : (n name : List ℕ) (names : List (List ℕ)) → has_name n (names ++ name ∷ []) ≡ true → (has_name n names ≡ true) ⊎ (same_name name n ≡ true)
has_back n name [] is = known (same_name name n) (λ yes. inr yes) (λ no. absurd (false≢true (sym (ap (λ b. b || false) no) ∙ is)))
has_back n name (m ∷ ms) is = known (same_name m n)
    (λ yes. inl (ap (λ b. b || has_name n ms) yes))
    (λ no. ⊎_elim (λ has_. inl (ap (λ b. b || has_name n ms) no ∙ has_)) (λ same. inr same) (has_back n name ms (sym (ap (λ b. b || has_name n (ms ++ name ∷ [])) no) ∙ is)))

module _ (name : List ℕ) where
  has_without : (other : List ℕ) (names : List (List ℕ)) → has_name other names ≡ true → same_name name other ≡ false → has_name other (without_name name names) ≡ true
  has_without other [] is apart = absurd (false≢true is)
  has_without other (n ∷ ns) is apart = known (same_name n other)
      (λ here. ap (λ b. has_name other (cond (not b) (n ∷ without_name name ns) (without_name name ns))) (different n here) ∙ ap (λ b. b || has_name other (without_name name ns)) here)
      (λ there. let rest = has_without other ns (sym (ap (λ b. b || has_name other ns) there) ∙ is) apart in
      elim (same_name n name) as (λ b. has_name other (cond (not b) (n ∷ without_name name ns) (without_name name ns)) ≡ true) [ true ↦ rest | false ↦ has_more other n (without_name name ns) rest ])
    where
      different : (n : List ℕ) → same_name n other ≡ true → same_name n name ≡ false
      different n here = known (same_name n name)
          (λ same. absurd (false≢true (sym apart ∙ ap (λ m. same_name m other) (sym (same_text n name same)) ∙ here)))
          (λ isnt. isnt)

  without_has : (other : List ℕ) (names : List (List ℕ)) → has_name other (without_name name names) ≡ true → (has_name other names ≡ true) × (same_name name other ≡ false)
  without_has other [] is = absurd (false≢true is)
  without_has other (n ∷ ns) is = known (same_name n name)
      (λ gone. let rest = without_has other ns (sym (ap (λ b. has_name other (cond (not b) (n ∷ without_name name ns) (without_name name ns))) gone) ∙ is) in (has_more other n ns rest.0, rest.1))
      (λ stays. let now_is : has_name other (n ∷ without_name name ns) ≡ true = sym (ap (λ b. has_name other (cond (not b) (n ∷ without_name name ns) (without_name name ns))) stays) ∙ is in
      known (same_name n other)
      (λ here. (ap (λ b. b || has_name other ns) here, other_is n here stays))
      (λ there. let rest = without_has other ns (sym (ap (λ b. b || has_name other (without_name name ns)) there) ∙ now_is) in (has_more other n ns rest.0, rest.1)))
    where
      other_is : (n : List ℕ) → same_name n other ≡ true → same_name n name ≡ false → same_name name other ≡ false
      other_is n here stays = subst (λ m. same_name name m ≡ false) (same_text n other here) (other_name n name stays)

  -- each of the names is held still
  named_still : (stuck names : List (List ℕ)) → AllByRecursion (λ (n : List ℕ). has_name n stuck ≡ true) names → has_name name names ≡ false → AllByRecursion (λ (n : List ℕ). has_name n (without_name name stuck) ≡ true) names
  named_still stuck [] all none = tt
  named_still stuck (n ∷ ns) all none = known (same_name n name)
      (λ same. absurd (false≢true (sym none ∙ ap (λ b. b || has_name name ns) same)))
      (λ apart. (has_without n stuck all.0 (other_name n name apart), named_still stuck ns all.1 (sym (ap (λ b. b || has_name name ns) apart) ∙ none)))

  module _ (stuck names : List (List ℕ)) (named : AllByRecursion (λ (n : List ℕ). has_name n stuck ≡ true) (names ++ name ∷ [])) (held : (n : List ℕ) → has_name n stuck ≡ true → has_name n (names ++ name ∷ []) ≡ true) where
    pub last_held : has_name name stuck ≡ true
    last_held = (all_front (λ (n : List ℕ). has_name n stuck ≡ true) names name named).1

    -- it is released
    pub named_without : has_name name names ≡ false → AllByRecursion (λ (n : List ℕ). has_name n (without_name name stuck) ≡ true) names
    named_without none = named_still stuck names (all_front (λ (n : List ℕ). has_name n stuck ≡ true) names name named).0 none

    pub held_without : (n : List ℕ) → has_name n (without_name name stuck) ≡ true → has_name n names ≡ true
    held_without n is =
        let its = without_has n stuck is in
        ⊎_elim (λ has_. has_) (λ same. absurd (false≢true (sym its.1 ∙ same))) (has_back n name names (held n its.0))

    -- or another item of it is left
    pub named_with : AllByRecursion (λ (n : List ℕ). has_name n stuck ≡ true) names
    named_with = (all_front (λ (n : List ℕ). has_name n stuck ≡ true) names name named).0

    pub held_with : has_name name names ≡ true → (n : List ℕ) → has_name n stuck ≡ true → has_name n names ≡ true
    held_with more n is = ⊎_elim (λ has_. has_) (λ same. subst (λ m. has_name m names ≡ true) (same_text name n same) more) (has_back n name names (held n is))
