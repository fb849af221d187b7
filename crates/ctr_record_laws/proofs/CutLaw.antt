-- Version entries that lead nowhere from then on, or that are free.
use Rattle.std.proofs.Common.{◌≡◌, ◌≢◌, ⊎_elim, inl, inr, ℕ, zero, suc, Bool, true, false, cond, List, [], ◌∷◌, ◌++◌, drop, Option, Some, None, refl, sym, ◌∙◌, ap, subst}
use Rattle.std.proofs.lemmas.Bool.{false≢true, eq-eqb, eqb-true}
use Rattle.std.specs.List.{AllByRecursion}
use Rattle.std.specs.Prelude.{◌==◌}
use Rattle.ctr_area.specs.Areas.{RowVersion, Slot, Older, Area}
use Rattle.ctr_area.specs.Chains.{older_bound, places_along, if_any, chain_of, Leads}
use Rattle.ctr_area.specs.Changes.{with_older}
use Rattle.ctr_area.specs.Sound.{IsAmong}
use Rattle.ctr_record_laws.proofs.Along.{versions_at, ends_at, goes_on, same_versions}
use Rattle.ctr_record_laws.proofs.Kept.{older_apart, older_here}
use Rattle.ctr_record_laws.proofs.Members.{all_parts, all_both}
use Rattle.ctr_record_laws.proofs.OneSlot.{place_cases}
use Rattle.ctr_record_laws.proofs.Writes.{behind_pointer}
use Rattle.ctr_record_laws.specs.Owed.{PreviousStays, IsFirstPassing}
use Rattle.ctr_area.specs.ctr_page.declared.rows.Place.{Place}
use Rattle.ctr_area.proofs.ctr_versions.Keys.{known}
use Rattle.ctr_area.specs.versions_Changes.{cut}

-- ---- along the pointers, where one entry is changed

module _ (area : Area) (q : Place) (k : Older) where
  abbrev after : Area
  after = with_older q k area

  -- an entry that isn't on the way makes no difference
  away : (n : ℕ) (p : Place) → (IsAmong q (places_along n area.older p) → ⊥)
      → (places_along n after.older p ≡ places_along n area.older p) × AllByRecursion (λ r. after.older r ≡ area.older r) (places_along n area.older p)
  away zero p out = (refl, tt)
  away (suc n) p out = known (p.page == 0)
      (λ z. let ends = ends_at (suc n) area.older p (eqb-true p.page 0 z) in
      (ends_at (suc n) after.older p (eqb-true p.page 0 z) ∙ sym ends, subst (AllByRecursion (λ r. after.older r ≡ area.older r)) (sym ends) tt))
      (λ nz. let there : p.page ≢ 0 = λ z. false≢true (sym nz ∙ eq-eqb p.page 0 z) in
      let goes = goes_on n area.older p there in
      let same_ : after.older p ≡ area.older p = older_apart area q k p (λ is. out (subst (IsAmong q) (sym goes) (inl (sym is)))) in
      let rest = away n (area.older p).pointer (λ in_. out (subst (IsAmong q) (sym goes) (inr in_))) in (
        goes_on n after.older p there ∙ ap (λ (j : Older). p ∷ places_along n after.older j.pointer) same_ ∙ ap (λ ps. p ∷ ps) rest.0 ∙ sym goes,
        subst (AllByRecursion (λ r. after.older r ≡ area.older r)) (sym goes) (same_, rest.1),
      ))

  pub away_chain : (slot : Slot) → (IsAmong q (places_along older_bound area.older slot.pointer) → ⊥) → chain_of after.older slot ≡ chain_of area.older slot
  away_chain slot out =
      let parts = away older_bound slot.pointer out in
      ap (λ vs. slot.head ∷ (if_any slot.previous ++ vs)) (ap (versions_at after.older) parts.0 ∙ same_versions area.older after.older (places_along older_bound area.older slot.pointer) parts.1)

  pub away_along : (slot : Slot) → (IsAmong q (places_along older_bound area.older slot.pointer) → ⊥) → places_along older_bound after.older slot.pointer ≡ places_along older_bound area.older slot.pointer
  away_along slot out = (away older_bound slot.pointer out).0

  away_leads : (Is : Place → Older → Type 0) (n : ℕ) (p : Place) → (IsAmong q (places_along n area.older p) → ⊥) → Leads n area.older Is p → Leads n after.older Is p
  away_leads Is zero p out z = z
  away_leads Is (suc n) p out (inl z) = inl z
  away_leads Is (suc n) p out (inr more) = known (p.page == 0) (λ z. inl (eqb-true p.page 0 z))
      (λ nz. let goes = goes_on n area.older p (λ z. false≢true (sym nz ∙ eq-eqb p.page 0 z)) in
      let same_ : after.older p ≡ area.older p = older_apart area q k p (λ is. out (subst (IsAmong q) (sym goes) (inl (sym is)))) in
      inr (
        subst (Is p) (sym same_) more.0,
        subst (λ (j : Older). Leads n after.older Is j.pointer) (sym same_)
            (away_leads Is n (area.older p).pointer (λ in_. out (subst (IsAmong q) (sym goes) (inr in_))) more.1),
      ))

  -- ---- an entry that ends

  module _ (ends : k.pointer.page ≡ 0) (version : k.version ≡ (area.older q).version) where
    leads_nowhere : (Is : Place → Older → Type 0) (n : ℕ) (p : Place) → p.page ≡ 0 → Leads n after.older Is p
    leads_nowhere Is zero p z = z
    leads_nowhere Is (suc n) p z = inl z

    ended : (p : Place) → p ≡ q → (after.older p).pointer.page ≡ 0
    ended p is = ap (λ (j : Older). j.pointer.page) (older_here area q k p is) ∙ ends

    same_version : (p : Place) → (after.older p).version ≡ (area.older p).version
    same_version p = place_cases p q
        (λ is. ap (λ (j : Older). j.version) (older_here area q k p is) ∙ version ∙ ap (λ p. (area.older p).version) (sym is))
        (λ apart. ap (λ (j : Older). j.version) (older_apart area q k p apart))

    pub cut_leads : (Is : Place → Older → Type 0) → (Is q (area.older q) → Is q k) → (n : ℕ) (p : Place) → Leads n area.older Is p → Leads n after.older Is p
    cut_leads Is still zero p z = z
    cut_leads Is still (suc n) p (inl z) = inl z
    cut_leads Is still (suc n) p (inr more) = place_cases p q
        (λ is. inr (subst (Is p) (sym (older_here area q k p is)) (subst (λ p. Is p k) (sym is) (still (subst (λ p. Is p (area.older p)) is more.0))), leads_nowhere Is n (after.older p).pointer (ended p is)))
        (λ apart. inr (subst (Is p) (sym (older_apart area q k p apart)) more.0, subst (λ (j : Older). Leads n after.older Is j.pointer) (sym (older_apart area q k p apart)) (cut_leads Is still n (area.older p).pointer more.1)))

    -- the way is no longer than it was
    pub cut_along : (n : ℕ) (p r : Place) → IsAmong r (places_along n after.older p) → IsAmong r (places_along n area.older p)
    cut_along zero p r in_ = in_
    cut_along (suc n) p r in_ = known (p.page == 0)
        (λ z. absurd (subst (IsAmong r) (ends_at (suc n) after.older p (eqb-true p.page 0 z)) in_))
        (λ nz. let there : p.page ≢ 0 = λ z. false≢true (sym nz ∙ eq-eqb p.page 0 z) in
        subst (IsAmong r) (sym (goes_on n area.older p there))
        (⊎_elim (λ here. inl here)
        (λ later. inr (place_cases p q
        (λ is. absurd (subst (IsAmong r) (ends_at n after.older (after.older p).pointer (ended p is)) later))
        (λ apart. cut_along n (area.older p).pointer r (subst (λ (j : Older). IsAmong r (places_along n after.older j.pointer)) (older_apart area q k p apart) later))))
        (subst (IsAmong r) (goes_on n after.older p there) in_)))

    -- what holds of each version still does
    cut_all : (P : RowVersion → Type 0) (n : ℕ) (p : Place) → AllByRecursion P (versions_at area.older (places_along n area.older p)) → AllByRecursion P (versions_at after.older (places_along n after.older p))
    cut_all P zero p all = tt
    cut_all P (suc n) p all = known (p.page == 0)
        (λ z. subst (λ ps. AllByRecursion P (versions_at after.older ps)) (sym (ends_at (suc n) after.older p (eqb-true p.page 0 z))) tt)
        (λ nz. let there : p.page ≢ 0 = λ z. false≢true (sym nz ∙ eq-eqb p.page 0 z) in
        let was = subst (λ ps. AllByRecursion P (versions_at area.older ps)) (goes_on n area.older p there) all in
        subst (λ ps. AllByRecursion P (versions_at after.older ps)) (sym (goes_on n after.older p there)) (
          subst P (sym (same_version p)) was.0,
          place_cases p q
              (λ is. subst (λ ps. AllByRecursion P (versions_at after.older ps)) (sym (ends_at n after.older (after.older p).pointer (ended p is))) tt)
              (λ apart. subst (λ (j : Older). AllByRecursion P (versions_at after.older (places_along n after.older j.pointer))) (sym (older_apart area q k p apart)) (cut_all P n (area.older p).pointer was.1)),
        ))

    pub cut_chain_all : (P : RowVersion → Type 0) (slot : Slot) → AllByRecursion P (drop 1 (chain_of area.older slot)) → AllByRecursion P (drop 1 (chain_of after.older slot))
    cut_chain_all P slot all =
        let parts = all_parts P (if_any slot.previous) (behind_pointer area.older slot.pointer) all in
        all_both P (if_any slot.previous) (behind_pointer after.older slot.pointer) parts.0 (cut_all P older_bound slot.pointer parts.1)

    -- ---- the cut itself

    module _ (passes : ℕ → Bool) where
      passing : (ps : List Place) → IsFirstPassing passes area.older q ps → passes (area.older q).version.0 ≡ true
      passing [] first = absurd first
      passing (p ∷ ps) (inl here) = ap (λ p. passes (area.older p).version.0) (sym here.0) ∙ here.1
      passing (p ∷ ps) (inr later) = passing ps later.1

      cut_here : (n : ℕ) (p : Place) → passes (area.older q).version.0 ≡ true → IsFirstPassing passes area.older q (places_along n area.older p)
          → versions_at after.older (places_along n after.older p) ≡ cut passes (versions_at area.older (places_along n area.older p))
      cut_here zero p old first = absurd first
      cut_here (suc n) p old first = known (p.page == 0)
          (λ z. absurd (subst (IsFirstPassing passes area.older q) (ends_at (suc n) area.older p (eqb-true p.page 0 z)) first))
          (λ nz. let there : p.page ≢ 0 = λ z. false≢true (sym nz ∙ eq-eqb p.page 0 z) in
          let tail = versions_at area.older (places_along n area.older (area.older p).pointer) in
          let goes = goes_on n area.older p there in
          ap (versions_at after.older) (goes_on n after.older p there) ∙ ap (λ v. v ∷ versions_at after.older (places_along n after.older (after.older p).pointer)) (same_version p)
          ∙ ⊎_elim
          (λ here. ap (λ ps. (area.older p).version ∷ versions_at after.older ps) (ends_at n after.older (after.older p).pointer (ended p here.0))
          ∙ sym (ap (λ b. cond b ((area.older p).version ∷ []) ((area.older p).version ∷ cut passes tail)) here.1))
          (λ later. let apart : p ≡ q → ⊥ = λ is. false≢true (sym later.0 ∙ ap (λ p. passes (area.older p).version.0) is ∙ old) in
          ap (λ (j : Older). (area.older p).version ∷ versions_at after.older (places_along n after.older j.pointer)) (older_apart area q k p apart)
          ∙ ap (λ vs. (area.older p).version ∷ vs) (cut_here n (area.older p).pointer old later.1)
          ∙ sym (ap (λ b. cond b ((area.older p).version ∷ []) ((area.older p).version ∷ cut passes tail)) later.0))
          (subst (IsFirstPassing passes area.older q) goes first)
          ∙ sym (ap (λ ps. cut passes (versions_at area.older ps)) goes))

      -- neither head nor previous version passes, and the cut is behind a version entry
      pub cut_chain : (slot : Slot) → passes slot.head.0 ≡ false → PreviousStays passes slot.previous → IsFirstPassing passes area.older q (places_along older_bound area.older slot.pointer)
          → chain_of after.older slot ≡ cut passes (chain_of area.older slot)
      cut_chain slot head previous first =
          ap (λ vs. slot.head ∷ vs) (by slot.previous previous)
          ∙ sym (ap (λ b. cond b (slot.head ∷ []) (slot.head ∷ cut passes (if_any slot.previous ++ behind_pointer area.older slot.pointer))) head)
        where
          behind_cut : behind_pointer after.older slot.pointer ≡ cut passes (behind_pointer area.older slot.pointer)
          behind_cut = cut_here older_bound slot.pointer (passing (places_along older_bound area.older slot.pointer) first) first

          by : (o : Option RowVersion) → PreviousStays passes o → if_any o ++ behind_pointer after.older slot.pointer ≡ cut passes (if_any o ++ behind_pointer area.older slot.pointer)
          by None stays = behind_cut
          by (Some v) stays = ap (λ vs. v ∷ vs) behind_cut ∙ sym (ap (λ b. cond b (v ∷ []) (v ∷ cut passes (behind_pointer area.older slot.pointer))) stays)

  -- the entry is on the way
  pub first_among : (passes : ℕ → Bool) (ps : List Place) → IsFirstPassing passes area.older q ps → IsAmong q ps
  first_among passes [] first = absurd first
  first_among passes (p ∷ ps) (inl here) = inl (sym here.0)
  first_among passes (p ∷ ps) (inr later) = inr (first_among passes ps later.1)

  pub out_leads : (Is : Place → Older → Type 0) (p : Place) → (IsAmong q (places_along older_bound area.older p) → ⊥) → Leads older_bound area.older Is p → Leads older_bound after.older Is p
  out_leads Is p out leads = away_leads Is older_bound p out leads
