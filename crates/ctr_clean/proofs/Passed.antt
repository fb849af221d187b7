-- On the way along a chain to the first version entry whose version passes.
use Rattle.std.proofs.Common.{◌≡◌, ⊎_elim, inl, inr, ℕ, zero, suc, ℤ, cond, Bool, true, false, List, [], ◌∷◌, refl, sym, ◌∙◌, ap, subst}
use Rattle.std.proofs.lemmas.Bool.{eq-eqb, ne_eqb, false≢true}
use Rattle.ctr_page.specs.declared.rows.Place.{Place}
use Rattle.ctr_area.specs.Areas.{Older, Area}
use Rattle.ctr_area.specs.Chains.{older_bound, places_along, Leads}
use Rattle.ctr_area.specs.Sound.{IsKeptFor}
use Rattle.ctr_record_laws.specs.Owed.{IsFirstPassing}
use Rattle.ctr_clean.specs.declared.cutting.CutFound.TheVariants.{Behind, Nowhere, Further}
use Rattle.ctr_clean.specs.Cutting.{IsFirstFrom, IsCutAlong}
use Rattle.ctr_clean.specs.Older.{reach, EndsInReach}
use Rattle.ctr_clean.proofs.Along.{before, leads_through}

-- So many steps are left within reach from a place on, and as many or more of the chain: the first of the chain is that of the rest.
pub record IsOnWayTo (passes : ℕ → Bool) (area : Area) (from at : Place) (left : ℕ) : Type 0 where
  pub rest : ℕ
  pub leads : (e : ℕ) (key : ℤ) → Leads older_bound area.older (IsKeptFor area e key) from → Leads rest area.older (IsKeptFor area e key) at
  pub on : (q : Place) → IsFirstFrom passes area from q → IsFirstPassing passes area.older q (places_along rest area.older at)
  pub back : (q : Place) → IsFirstPassing passes area.older q (places_along rest area.older at) → IsFirstFrom passes area from q
  pub near : EndsInReach area from → Leads left area.older (λ p it. Unit {0}) at
  pub within : (q : Place) → IsFirstPassing passes area.older q (places_along reach area.older from) → IsFirstPassing passes area.older q (places_along left area.older at)

pub way_starts : (passes : ℕ → Bool) (area : Area) (from : Place) → IsOnWayTo passes area from from 256
unfolding reach
way_starts passes area from = record { rest = older_bound; leads = λ e key leads. leads; on = λ q first. first; back = λ q first. first; near = λ short. short; within = λ q first. first }

module _ (passes : ℕ → Bool) (area : Area) (from at : Place) (n : ℕ) (some : at.page ≡ 0 → ⊥) (way : IsOnWayTo passes area from at (suc n)) where
  -- the version entries of so many steps behind the place
  abbrev behind : ℕ → List Place
  behind m = places_along m area.older (area.older at).pointer

  abbrev First : Place → List Place → Type 0
  First q ps = IsFirstPassing passes area.older q ps

  pub kept_on_way : (e : ℕ) (key : ℤ) → Leads older_bound area.older (IsKeptFor area e key) from
      → IsKeptFor area e key at (area.older at) × Leads (before way.rest) area.older (IsKeptFor area e key) (area.older at).pointer
  kept_on_way e key leads = leads_through way.rest area.older (IsKeptFor area e key) at some (way.leads e key leads)

  at_front : (m : ℕ) (q : Place) → First q (places_along (suc m) area.older at) → First q (at ∷ behind m)
  at_front m q first = subst (λ b. First q (cond b [] (at ∷ behind m))) (ne_eqb at.page 0 some) first

  from_front : (m : ℕ) (q : Place) → First q (at ∷ behind m) → First q (places_along (suc m) area.older at)
  from_front m q first = subst (λ b. First q (cond b [] (at ∷ behind m))) (sym (ne_eqb at.page 0 some)) first

  pub passes_on : passes (area.older at).version.0 ≡ false → (next : Place) → (area.older at).pointer ≡ next → IsOnWayTo passes area from next n
  passes_on isnt next is = subst (λ p. IsOnWayTo passes area from p n) is (record {
    rest = before way.rest;
    leads = λ e key leads. (kept_on_way e key leads).1;
    on = λ q first. on_by way.rest q (way.on q first);
    back = λ q first. way.back q (back_by way.rest q first);
    near = λ short. (leads_through (suc n) area.older (λ p it. Unit {0}) at some (way.near short)).1;
    within = λ q first. on_by (suc n) q (way.within q first);
  })
    where
      on_by : (m : ℕ) (q : Place) → First q (places_along m area.older at) → First q (behind (before m))
      on_by zero q first = absurd first
      on_by (suc m) q first = ⊎_elim (λ here. absurd (false≢true (sym isnt ∙ here.1))) (λ more. more.1) (at_front m q first)

      back_by : (m : ℕ) (q : Place) → First q (behind (before m)) → First q (places_along m area.older at)
      back_by zero q first = absurd first
      back_by (suc m) q first = from_front m q (inr (isnt, first))

  pub cut_here : (e : ℕ) (key : ℤ) → Leads older_bound area.older (IsKeptFor area e key) from → passes (area.older at).version.0 ≡ true → ((area.older at).pointer.page ≡ 0 → ⊥) → IsCutAlong passes area from (Behind at)
  cut_here e key leads is more = (way.back at (by way.rest (way.leads e key leads)), more)
    where
      by : (m : ℕ) → Leads m area.older (IsKeptFor area e key) at → First at (places_along m area.older at)
      by zero none = absurd (some none)
      by (suc m) kept = from_front m at (inl (refl, is))

  pub last_here : passes (area.older at).version.0 ≡ true → (area.older at).pointer.page ≡ 0 → IsCutAlong passes area from Nowhere
  last_here is none q first more = by way.rest (way.on q first)
    where
      by : (m : ℕ) → First q (places_along m area.older at) → ⊥
      by zero never = never
      by (suc m) there = ⊎_elim
          (λ here. more (ap (λ (p : Place). (area.older p).pointer.page) (sym here.0) ∙ none))
          (λ further. false≢true (sym further.0 ∙ is))
          (at_front m q there)

-- the chain ends
pub none_here : (passes : ℕ → Bool) (area : Area) (from at : Place) (left : ℕ) → at.page ≡ 0 → IsOnWayTo passes area from at left → IsCutAlong passes area from Nowhere
none_here passes area from at left none way q first more = by way.rest (way.on q first)
  where
    by : (m : ℕ) → IsFirstPassing passes area.older q (places_along m area.older at) → ⊥
    by zero never = never
    by (suc m) there = subst (λ b. IsFirstPassing passes area.older q (cond b [] (at ∷ places_along m area.older (area.older at).pointer))) (eq-eqb at.page 0 none) there

-- no step is left within reach, and the chain goes on
pub none_near : (passes : ℕ → Bool) (area : Area) (from at : Place) → (at.page ≡ 0 → ⊥) → IsOnWayTo passes area from at 0 → IsCutAlong passes area from Further
none_near passes area from at some way = (λ q first. way.within q first, λ short. some (way.near short))
