-- On the way along a chain of version entries to the first whose version is sought, and what a slot says before.
use Rattle.std.proofs.Common.{◌≡◌, ⊎_elim, ℕ, zero, suc, ℤ, cond, Bool, true, false, List, [], ◌∷◌, ◌++◌, map, Option, Some, None, refl, sym, ◌∙◌, ap, subst}
use Rattle.std.specs.Option.{option_map}
use Rattle.std.proofs.lemmas.Bool.{eq-eqb, ne_eqb}
use Rattle.ctr_versions.specs.Chains.{value_seen}
use Rattle.ctr_page.specs.declared.rows.Place.{Place}
use Rattle.ctr_area.specs.Areas.{RowVersion, Area}
use Rattle.ctr_area.specs.Chains.{older_bound, if_any, places_along, Leads}
use Rattle.ctr_area.specs.Sound.{IsKeptFor}
use Rattle.ctr_totals.specs.Totals.{number_of_row}
use Rattle.ctr_totals.specs.declared.facts.SlotFacts.{SlotFacts}
use Rattle.ctr_totals.specs.Facts.{number_seen, number_along, number_at, IsKnownSlot, IsSeenIn}

-- one version, and those behind it
pub seen_first : (test : ℕ → Bool) (v : RowVersion) (vs : List RowVersion) → number_seen test (v ∷ vs) ≡ cond (test v.0) (option_map number_of_row v.1) (number_seen test vs)
seen_first test v vs = elim (test v.0) as (λ b. option_map number_of_row (cond b v.1 (value_seen test vs)) ≡ cond b (option_map number_of_row v.1) (number_seen test vs)) [
  | true ↦ refl
  | false ↦ refl
]

-- So many steps are left from a place on, and what is seen of the rest is what is seen of the chain.
pub record IsOnWay (test : ℕ → Bool) (area : Area) (e : ℕ) (key : ℤ) (from at : Place) (left : ℕ) : Type 0 where
  pub leads : Leads left area.older (IsKeptFor area e key) at
  pub same : number_along test area older_bound from ≡ number_along test area left at

pub way_starts : (test : ℕ → Bool) (area : Area) (e : ℕ) (key : ℤ) (from : Place) → Leads older_bound area.older (IsKeptFor area e key) from → IsOnWay test area e key from from 5100000
unfolding older_bound
way_starts test area e key from leads = record { leads = leads; same = refl }

module _ (test : ℕ → Bool) (area : Area) (e : ℕ) (key : ℤ) (from at : Place) (n : ℕ) (some : at.page ≡ 0 → ⊥) (way : IsOnWay test area e key from at (suc n)) where
  abbrev rest : List Place
  rest = places_along n area.older (area.older at).pointer

  -- what is at the place
  pub kept_here : IsKeptFor area e key at (area.older at) × Leads n area.older (IsKeptFor area e key) (area.older at).pointer
  kept_here = ⊎_elim (λ none. absurd (some none)) (λ more. more) way.leads

  split : number_along test area older_bound from ≡ cond (test (area.older at).version.0) (option_map number_of_row (area.older at).version.1) (number_along test area n (area.older at).pointer)
  split = way.same ∙ ap (λ b. number_seen test (map (λ q. (area.older q).version) (cond b [] (at ∷ rest)))) (ne_eqb at.page 0 some)
      ∙ seen_first test (area.older at).version (map (λ q. (area.older q).version) rest)

  pub seen_here : test (area.older at).version.0 ≡ true → (number : Option ℤ) → option_map number_of_row (area.older at).version.1 ≡ number → number ≡ number_along test area older_bound from
  seen_here is number told = sym (split ∙ ap (λ b. cond b (option_map number_of_row (area.older at).version.1) (number_along test area n (area.older at).pointer)) is ∙ told)

  pub goes_on : test (area.older at).version.0 ≡ false → (next : Place) → (area.older at).pointer ≡ next → IsOnWay test area e key from next n
  goes_on isnt next is = subst (λ p. IsOnWay test area e key from p n) is (record {
    leads = kept_here.1;
    same = split ∙ ap (λ b. cond b (option_map number_of_row (area.older at).version.1) (number_along test area n (area.older at).pointer)) isnt;
  })

-- the chain ends
pub ends_here : (test : ℕ → Bool) (area : Area) (e : ℕ) (key : ℤ) (from at : Place) (left : ℕ) → at.page ≡ 0 → IsOnWay test area e key from at left → None ≡ number_along test area older_bound from
ends_here test area e key from at zero none way = sym way.same
ends_here test area e key from at (suc n) none way =
    sym (way.same ∙ ap (λ b. number_seen test (map (λ q. (area.older q).version) (cond b [] (at ∷ places_along n area.older (area.older at).pointer)))) (eq-eqb at.page 0 none))

-- what a slot says is seen of its row; and where it says nothing, what is behind it is
pub in_slot : (test : ℕ → Bool) (area : Area) (at : Place) (f : SlotFacts) (n : Option ℤ) → IsSeenIn test f (Some n) → IsKnownSlot (area.slot at) f → n ≡ number_at test area at
in_slot test area at f n seen known = seen (map (λ q. (area.older q).version) (places_along older_bound area.older (area.slot at).pointer)) (area.slot at) known

pub behind_slot : (test : ℕ → Bool) (area : Area) (at : Place) (f : SlotFacts) → IsSeenIn test f None → IsKnownSlot (area.slot at) f
    → ((area.slot at).used ≡ true) × ((area.slot at).pointer ≡ f.next) × (number_along test area older_bound f.next ≡ number_at test area at)
behind_slot test area at f seen known =
    let vs = map (λ q. (area.older q).version) (places_along older_bound area.older (area.slot at).pointer) in
    let off = seen vs (area.slot at) known in
    let next = known.next (sym known.used ∙ off.0) in (
      off.0,
      next,
      ap (number_along test area older_bound) (sym next) ∙ sym (ap (λ b. cond b (number_seen test ((area.slot at).head ∷ (if_any (area.slot at).previous ++ vs))) None) off.0 ∙ off.1),
    )
