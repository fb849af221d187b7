-- Chains of version entries.
use Rattle.std.proofs.Common.{◌≡◌, inl, inr, ℕ, zero, suc, cond, List, [], ◌∷◌, map, length, refl, sym, ◌∙◌, ap, subst}
use Rattle.std.proofs.lemmas.Bool.{false≢true, eq-eqb, eqb-true, ne_eqb}
use Rattle.std.specs.List.{AllByRecursion}
use Rattle.std.specs.Prelude.{◌==◌}
use Rattle.ctr_area.specs.Areas.{RowVersion, Older}
use Rattle.ctr_area.specs.Chains.{places_along, Leads}
use Rattle.ctr_area.specs.ctr_page.declared.rows.Place.{Place}
use Rattle.ctr_area.proofs.ctr_versions.Keys.{known}

-- the versions at these places
abbrev pub versions_at : (Place → Older) → List Place → List RowVersion
versions_at older places = map (λ at. (older at).version) places

pub ends_at : (n : ℕ) (older : Place → Older) (p : Place) → p.page ≡ 0 → places_along n older p ≡ []
ends_at zero older p is = refl
ends_at (suc n) older p is = ap (λ b. cond b [] (p ∷ places_along n older (older p).pointer)) (eq-eqb p.page 0 is)

pub goes_on : (n : ℕ) (older : Place → Older) (p : Place) → (p.page ≡ 0 → ⊥) → places_along (suc n) older p ≡ p ∷ places_along n older (older p).pointer
goes_on n older p isnt = ap (λ b. cond b [] (p ∷ places_along n older (older p).pointer)) (ne_eqb p.page 0 isnt)

-- a page is 0 or isn't
page_cases : {A : Type 0} (n : ℕ) → (n ≡ 0 → A) → ((n ≡ 0 → ⊥) → A) → A
page_cases n at_zero at_more = known (n == 0) (λ is. at_zero (eqb-true n 0 is)) (λ is. at_more (λ z. false≢true (sym is ∙ eq-eqb n 0 z)))

module _ (older : Place → Older) (is : Place → Older → Type 0) where
  -- version entries that are as they were on the way
  pub same_along : (other : Place → Older) → ((q : Place) → is q (older q) → other q ≡ older q) → (n : ℕ) (p : Place) → Leads n older is p → places_along n other p ≡ places_along n older p
  same_along other same_ zero p leads = refl
  same_along other same_ (suc n) p (inl z) = ends_at (suc n) other p z ∙ sym (ends_at (suc n) older p z)
  same_along other same_ (suc n) p (inr more) =
      ap (λ k. cond (p.page == 0) [] (p ∷ places_along n other k)) (ap (λ (k : Older). k.pointer) (same_ p more.0))
      ∙ ap (λ ps. cond (p.page == 0) [] (p ∷ ps)) (same_along other same_ n (older p).pointer more.1)

  pub all_along : (n : ℕ) (p : Place) → Leads n older is p → AllByRecursion (λ q. is q (older q)) (places_along n older p)
  all_along zero p leads = tt
  all_along (suc n) p (inl z) = subst (AllByRecursion (λ q. is q (older q))) (sym (ends_at (suc n) older p z)) tt
  all_along (suc n) p (inr more) = page_cases p.page
      (λ z. subst (AllByRecursion (λ q. is q (older q))) (sym (ends_at (suc n) older p z)) tt)
      (λ nz. subst (AllByRecursion (λ q. is q (older q))) (sym (goes_on n older p nz)) (more.0, all_along n (older p).pointer more.1))

  -- a step more makes no difference
  pub more_along : (n : ℕ) (p : Place) → Leads n older is p → places_along (suc n) older p ≡ places_along n older p
  more_along zero p z = ends_at 1 older p z
  more_along (suc n) p (inl z) = ends_at (suc (suc n)) older p z ∙ sym (ends_at (suc n) older p z)
  more_along (suc n) p (inr more) = ap (λ ps. cond (p.page == 0) [] (p ∷ ps)) (more_along n (older p).pointer more.1)

  -- as many steps as there are entries will do
  pub leads_short : (n : ℕ) (p : Place) → Leads n older is p → Leads (length (places_along n older p)) older is p
  leads_short zero p z = z
  leads_short (suc n) p (inl z) = subst (λ ps. Leads (length ps) older is p) (sym (ends_at (suc n) older p z)) z
  leads_short (suc n) p (inr more) = page_cases p.page
      (λ z. subst (λ ps. Leads (length ps) older is p) (sym (ends_at (suc n) older p z)) z)
      (λ nz. subst (λ ps. Leads (length ps) older is p) (sym (goes_on n older p nz)) (longer (length (places_along n older (older p).pointer)) p more.0 (leads_short n (older p).pointer more.1)))
    where
      longer : (m : ℕ) (p : Place) → is p (older p) → Leads m older is (older p).pointer → Leads (suc m) older is p
      longer m p its rest = inr (its, rest)

  pub leads_more : (n : ℕ) (p : Place) → Leads n older is p → Leads (suc n) older is p
  leads_more zero p z = inl z
  leads_more (suc n) p (inl z) = inl z
  leads_more (suc n) p (inr more) = inr (more.0, leads_more n (older p).pointer more.1)

  -- what leads so still does
  pub leads_same : (other : Place → Older) (its : Place → Older → Type 0) → ((q : Place) → is q (older q) → other q ≡ older q) → ((q : Place) → is q (older q) → its q (older q)) → (n : ℕ) (p : Place) → Leads n older is p → Leads n other its p
  leads_same other its same_ gives zero p z = z
  leads_same other its same_ gives (suc n) p (inl z) = inl z
  leads_same other its same_ gives (suc n) p (inr more) =
      inr (subst (its p) (sym (same_ p more.0)) (gives p more.0), subst (λ (k : Older). Leads n other its k.pointer) (sym (same_ p more.0)) (leads_same other its same_ gives n (older p).pointer more.1))

pub same_versions : (older other : Place → Older) (ps : List Place) → AllByRecursion (λ q. other q ≡ older q) ps → versions_at other ps ≡ versions_at older ps
same_versions older other [] all = refl
same_versions older other (p ∷ ps) all = λ i. (all.0 i).version ∷ same_versions older other ps all.1 i
