-- What comes behind a version entry on the way.
use Rattle.std.proofs.Common.{◌≡◌, ◌≢◌, ⊎_elim, inl, inr, ℕ, zero, suc, ◌∷◌, refl, sym, ◌∙◌, ap, subst}
use Rattle.ctr_area.specs.Areas.{Older, Area}
use Rattle.ctr_area.specs.Chains.{places_along, Leads}
use Rattle.ctr_area.specs.Changes.{with_older}
use Rattle.ctr_area.specs.Sound.{IsAmong}
use Rattle.ctr_record_laws.proofs.Along.{ends_at, goes_on, more_along, leads_more}
use Rattle.ctr_record_laws.proofs.Kept.{older_apart, older_here}
use Rattle.ctr_record_laws.proofs.OneSlot.{place_cases}
use Rattle.ctr_record_laws.proofs.Room.{AreApart, along_apart}
use Rattle.ctr_area.specs.ctr_page.declared.rows.Place.{Place}

module _ (older : Place → Older) where
  -- a way that has a member begins somewhere, and goes on
  pub some_step : (n : ℕ) (p r : Place) → IsAmong r (places_along n older p) → p.page ≢ 0
  some_step n p r in_ z = subst (IsAmong r) (ends_at n older p z) in_

  parted : (n : ℕ) (p r : Place) → IsAmong r (places_along (suc n) older p) → IsAmong r (p ∷ places_along n older (older p).pointer)
  parted n p r in_ = subst (IsAmong r) (goes_on n older p (some_step (suc n) p r in_)) in_

  -- with a step more all is there that was
  pub fewer_along : (n : ℕ) (p r : Place) → IsAmong r (places_along n older p) → IsAmong r (places_along (suc n) older p)
  fewer_along zero p r in_ = absurd in_
  fewer_along (suc n) p r in_ = subst (IsAmong r) (sym (goes_on (suc n) older p (some_step (suc n) p r in_)))
      (⊎_elim (λ here. inl here) (λ later. inr (fewer_along n (older p).pointer r later)) (parted n p r in_))

  module _ (Is : Place → Older → Type 0) where
    rest_leads : (n : ℕ) (p : Place) → p.page ≢ 0 → Leads (suc n) older Is p → Leads n older Is (older p).pointer
    rest_leads n p there leads = ⊎_elim (λ z. absurd (there z)) (λ more. more.1) leads

    -- behind an entry on the way the pointers come to an end too
    pub next_leads : (n : ℕ) (p q : Place) → Leads n older Is p → IsAmong q (places_along n older p) → Leads n older Is (older q).pointer
    next_leads zero p q leads in_ = absurd in_
    next_leads (suc n) p q leads in_ =
        let rest = rest_leads n p (some_step (suc n) p q in_) leads in
        ⊎_elim (λ here. subst (λ q. Leads (suc n) older Is (older q).pointer) (sym here) (leads_more older Is n (older p).pointer rest))
        (λ later. leads_more older Is n (older q).pointer (next_leads n (older p).pointer q rest later))
        (parted n p q in_)

    -- what is behind an entry on the way is on the way
    pub behind_along : (n : ℕ) (p q r : Place) → Leads n older Is p → IsAmong q (places_along n older p) → IsAmong r (places_along n older (older q).pointer) → IsAmong r (places_along n older p)
    behind_along zero p q r leads in_ behind = absurd in_
    behind_along (suc n) p q r leads in_ behind =
        let there = some_step (suc n) p q in_ in
        let rest = rest_leads n p there leads in
        subst (IsAmong r) (sym (goes_on n older p there)) (inr
        (⊎_elim
        (λ here. subst (IsAmong r) (ap (λ q. places_along (suc n) older (older q).pointer) here ∙ more_along older Is n (older p).pointer rest) behind)
        (λ later. behind_along n (older p).pointer q r rest later
        (subst (IsAmong r) (more_along older Is n (older q).pointer (next_leads n (older p).pointer q rest later)) behind))
        (parted n p q in_)))

    -- no entry is behind itself
    pub not_behind : (n : ℕ) (p q : Place) → Leads n older Is p → IsAmong q (places_along n older p) → IsAmong q (places_along n older (older q).pointer) → ⊥
    not_behind zero p q leads in_ behind = in_
    not_behind (suc n) p q leads in_ behind =
        let there = some_step (suc n) p q in_ in
        let rest = rest_leads n p there leads in
        let apart = subst AreApart (goes_on n older p there) (along_apart older Is (suc n) p leads) in
        ⊎_elim
        (λ here. apart.0 (subst (λ q. IsAmong q (places_along n older (older p).pointer)) here
        (subst (IsAmong q) (ap (λ q. places_along (suc n) older (older q).pointer) here ∙ more_along older Is n (older p).pointer rest) behind)))
        (λ later. not_behind n (older p).pointer q rest later
        (subst (IsAmong q) (more_along older Is n (older q).pointer (next_leads n (older p).pointer q rest later)) behind))
        (parted n p q in_)

-- ---- an entry leads nowhere from then on

module _ (area : Area) (q : Place) (k : Older) (ends : k.pointer.page ≡ 0) (Is : Place → Older → Type 0) where
  abbrev after : Area
  after = with_older q k area

  -- what was behind it is on the way no longer
  pub cut_off : (n : ℕ) (p r : Place) → Leads n area.older Is p → IsAmong q (places_along n area.older p) → IsAmong r (places_along n area.older (area.older q).pointer)
      → IsAmong r (places_along n after.older p) → ⊥
  cut_off zero p r leads in_ behind now = in_
  cut_off (suc n) p r leads in_ behind now = place_cases p q
      (λ is. ⊎_elim
      (λ here. not_behind area.older Is (suc n) p q leads in_ (subst (λ r. IsAmong r (places_along (suc n) area.older (area.older q).pointer)) (here ∙ is) behind))
      (λ later. some_step after.older n (after.older p).pointer r later (ap (λ (j : Older). j.pointer.page) (older_here area q k p is) ∙ ends))
      (parted after.older n p r now))
      (λ apart. let there = some_step area.older (suc n) p q in_ in
      let rest = rest_leads area.older Is n p there leads in
      let further : IsAmong q (places_along n area.older (area.older p).pointer) = ⊎_elim (λ here. absurd (apart (sym here))) (λ later. later) (parted area.older n p q in_) in
      let still : IsAmong r (places_along n area.older (area.older q).pointer) =
      subst (IsAmong r) (more_along area.older Is n (area.older q).pointer (next_leads area.older Is n (area.older p).pointer q rest further)) behind in
      ⊎_elim
      (λ here. not_behind area.older Is (suc n) p p leads (subst (IsAmong p) (sym (goes_on n area.older p there)) (inl refl))
      (fewer_along area.older n (area.older p).pointer p
      (subst (λ r. IsAmong r (places_along n area.older (area.older p).pointer)) here (behind_along area.older Is n (area.older p).pointer q r rest further still))))
      (λ later. cut_off n (area.older p).pointer r rest further still
      (subst (λ (j : Older). IsAmong r (places_along n after.older j.pointer)) (older_apart area q k p apart) later))
      (parted after.older n p r now))
