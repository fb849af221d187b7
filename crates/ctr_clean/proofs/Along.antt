-- On the way along a chain of version entries.
use Rattle.std.proofs.Common.{◌≡◌, ⊎_elim, inl, inr, ℕ, zero, suc, ℤ, cond, true, [], ◌∷◌, refl, sym, ◌∙◌, ap, subst}
use Rattle.std.proofs.lemmas.Bool.{eq-eqb, ne_eqb, cases_eq}
use Rattle.ctr_page.specs.declared.rows.Place.{Place}
use Rattle.ctr_area.specs.Areas.{Older, Area}
use Rattle.ctr_pvs.specs.redo_States.{State}
use Rattle.ctr_area.specs.Chains.{pages_bound, older_bound, pages_from, older_places, places_along, Leads}
use Rattle.ctr_area.specs.Sound.{IsAmong, IsKeptFor, IsUsedSlot, IsOfVersions, AreReadable}
use Rattle.ctr_area.proofs.Buckets.{each_of, on_chain}
use Rattle.ctr_record_effects.specs.States.{area_in}
use Rattle.ctr_record_effects.specs.Standing.{IsDatabaseState}
use Rattle.ctr_clean.specs.declared.older.ChainFound.TheVariants as found
use Rattle.ctr_clean.specs.Older.{reach, EndsInReach, HasAlong, IsHadBy, IsLooseIn}

-- the number before one, and 0 before 0
abbrev pub before : ℕ → ℕ
before zero = zero
before (suc n) = n

-- pointers that lead on lead through the version entry at which they stand
pub leads_through : (n : ℕ) (older : Place → Older) (Is : Place → Older → Type 0) (at : Place) → (at.page ≡ 0 → ⊥) → Leads n older Is at → Is at (older at) × Leads (before n) older Is (older at).pointer
leads_through zero older Is at some leads = absurd (some leads)
leads_through (suc n) older Is at some leads = ⊎_elim (λ none. absurd (some none)) (λ more. more) leads

-- So many steps are left within reach from a place on, and as many or more of the chain: it has what is sought where the rest has it.
pub record IsOnWay (area : Area) (from at q : Place) (left : ℕ) : Type 0 where
  pub rest : ℕ
  pub leads : (e : ℕ) (key : ℤ) → Leads older_bound area.older (IsKeptFor area e key) from → Leads rest area.older (IsKeptFor area e key) at
  pub on : IsAmong q (places_along older_bound area.older from) → IsAmong q (places_along rest area.older at)
  pub back : IsAmong q (places_along rest area.older at) → IsAmong q (places_along older_bound area.older from)
  pub near : EndsInReach area from → Leads left area.older (λ p it. Unit {0}) at
  pub within : IsAmong q (places_along reach area.older from) → IsAmong q (places_along left area.older at)

pub at_start : (area : Area) (from q : Place) → IsOnWay area from from q 256
unfolding reach
at_start area from q = record { rest = older_bound; leads = λ e key leads. leads; on = λ in_. in_; back = λ in_. in_; near = λ short. short; within = λ in_. in_ }

module _ (area : Area) (from at q : Place) (n : ℕ) (some : at.page ≡ 0 → ⊥) (way : IsOnWay area from at q (suc n)) where
  -- what is at the place
  pub kept_here : (e : ℕ) (key : ℤ) → Leads older_bound area.older (IsKeptFor area e key) from → IsKeptFor area e key at (area.older at)
  kept_here e key leads = (leads_through way.rest area.older (IsKeptFor area e key) at some (way.leads e key leads)).0

  pub found_here : (e : ℕ) (key : ℤ) → Leads older_bound area.older (IsKeptFor area e key) from → at ≡ q → HasAlong area from q found.Found
  found_here e key leads is = way.back (by way.rest (way.leads e key leads))
    where
      by : (m : ℕ) → Leads m area.older (IsKeptFor area e key) at → IsAmong q (places_along m area.older at)
      by zero none = absurd (some none)
      by (suc m) more = subst (λ b. IsAmong q (cond b [] (at ∷ places_along m area.older (area.older at).pointer))) (sym (ne_eqb at.page 0 some)) (inl (sym is))

  pub goes_on : (at ≡ q → ⊥) → (next : Place) → (area.older at).pointer ≡ next → IsOnWay area from next q n
  goes_on other next is = subst (λ p. IsOnWay area from p q n) is (record {
    rest = before way.rest;
    leads = λ e key leads. (leads_through way.rest area.older (IsKeptFor area e key) at some (way.leads e key leads)).1;
    on = λ in_. on_by way.rest (way.on in_);
    back = λ in_. way.back (back_by way.rest in_);
    near = λ short. (leads_through (suc n) area.older (λ p it. Unit {0}) at some (way.near short)).1;
    within = λ in_. on_by (suc n) (way.within in_);
  })
    where
      on_by : (m : ℕ) → IsAmong q (places_along m area.older at) → IsAmong q (places_along (before m) area.older (area.older at).pointer)
      on_by zero in_ = absurd in_
      on_by (suc m) in_ = ⊎_elim (λ here. absurd (other (sym here))) (λ further. further) (subst (λ b. IsAmong q (cond b [] (at ∷ places_along m area.older (area.older at).pointer))) (ne_eqb at.page 0 some) in_)

      back_by : (m : ℕ) → IsAmong q (places_along (before m) area.older (area.older at).pointer) → IsAmong q (places_along m area.older at)
      back_by zero in_ = absurd in_
      back_by (suc m) in_ = subst (λ b. IsAmong q (cond b [] (at ∷ places_along m area.older (area.older at).pointer))) (sym (ne_eqb at.page 0 some)) (inr in_)

-- the chain ends
pub ends_here : (area : Area) (from at q : Place) (left : ℕ) → at.page ≡ 0 → IsOnWay area from at q left → HasAlong area from q found.Missing
ends_here area from at q left none way in_ = by way.rest (way.on in_)
  where
    by : (m : ℕ) → IsAmong q (places_along m area.older at) → ⊥
    by zero in_ = in_
    by (suc m) in_ = subst (λ b. IsAmong q (cond b [] (at ∷ places_along m area.older (area.older at).pointer))) (eq-eqb at.page 0 none) in_

-- no step is left within reach, and the chain goes on
pub is_far : (area : Area) (from at q : Place) → (at.page ≡ 0 → ⊥) → IsOnWay area from at q 0 → HasAlong area from q found.Beyond
is_far area from at q some way = (λ in_. way.within in_, λ short. some (way.near short))

pub same_place : (a b : Place) → a.page ≡ b.page → a.slot ≡ b.slot → a ≡ b
same_place a b page slot = ap (λ p. record { page = p; slot = a.slot }) page ∙ ap (λ s. record { page = b.page; slot = s }) slot

-- what holds of each version entry that pointers lead through
pub each_along : (n : ℕ) (older : Place → Older) (Is : Place → Older → Type 0) (p q : Place) → Leads n older Is p → IsAmong q (places_along n older p) → Is q (older q)
each_along zero older Is p q leads in_ = absurd in_
each_along (suc n) older Is p q leads in_ = ⊎_elim
    (λ none. absurd (subst (λ b. IsAmong q (cond b [] (p ∷ places_along n older (older p).pointer))) (eq-eqb p.page 0 none) in_))
    (λ some. ⊎_elim
    (λ none. absurd (some none))
    (λ (more : Is p (older p) × Leads n older Is (older p).pointer). ⊎_elim
    (λ here. subst (λ x. Is x (older x)) (sym here) more.0)
    (λ further. each_along n older Is (older p).pointer q more.1 further)
    (subst (λ b. IsAmong q (cond b [] (p ∷ places_along n older (older p).pointer))) (ne_eqb p.page 0 some) in_))
    leads)
    (cases_eq p.page 0)

-- a version entry is one table's
one_table : (area : Area) (e f : ℕ) (q : Place) → AreReadable area → IsAmong q (older_places area e) → IsAmong q (older_places area f) → f ≡ e
one_table area e f q readable mine other = sym (entry f other) ∙ entry e mine
  where
    entry : (g : ℕ) → IsAmong q (older_places area g) → (area.header q.page).entry ≡ g
    entry g in_ = (each_of (λ r. IsOfVersions g (area.header r)) q.page (pages_from pages_bound area.header (area.firsts g).versions) (readable.versions g).0 (on_chain area (area.firsts g).versions q in_).0).1

-- a used version entry that no row of its key has is in no chain
pub not_had : (s : State) (e : ℕ) (key : ℤ) (q : Place) → IsDatabaseState s → IsAmong q (older_places (area_in s) e) → ((area_in s).older q).used ≡ true → ((area_in s).older q).key ≡ key
    → IsHadBy e key q s found.Missing → IsLooseIn e q s
not_had s e key q database among used key_is none = record {
  here = among;
  content = refl;
  used = used;
  unlinked = λ f b its in_.
      let area = area_in s in
      let kept = each_along older_bound area.older (IsKeptFor area f (area.slot b).key) (area.slot b).pointer q (database.sound.pointers.lead f b its) in_ in
      none b (subst (λ g. IsUsedSlot area g b) (one_table area e f q database.sound.readable among kept.0) its) (sym kept.2 ∙ key_is) in_;
}
