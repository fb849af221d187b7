-- A chain of version entries is shorter than the bound, where an entry of the table is in no chain.
use Rattle.std.proofs.Common.{◌≡◌, ◌⊎◌, ⊎_elim, inl, inr, ℕ, ◌+◌, ◌*◌, ◌<◌, ◌≤◌, zero, suc, true, false, cond, List, [], ◌∷◌, length, refl, sym, ◌∙◌, ap, subst, arith}
use Rattle.std.proofs.lemmas.Bool.{false≢true, eq-eqb, eqb-true, cases_lt}
use Rattle.std.proofs.lemmas.List.{length-append}
use Rattle.std.specs.List.{flat_map, AllByRecursion}
use Rattle.std.specs.Prelude.{◌==◌}
use Rattle.ctr_area.specs.Areas.{Older, Area}
use Rattle.ctr_area.specs.Chains.{pages_bound, older_bound, pages_from, places_on, older_places, places_along, Leads}
use Rattle.ctr_area.specs.Sound.{IsAmong}
use Rattle.ctr_record_laws.proofs.Along.{ends_at, goes_on, all_along, more_along, leads_more}
use Rattle.ctr_area.specs.ctr_page.declared.header.Header.{Header}
use Rattle.ctr_area.specs.ctr_page.declared.rows.Place.{Place}
use Rattle.ctr_area.proofs.ctr_versions.Keys.{known}

-- ---- lists without a member twice

abbrev pub AreApart : {A : Type 0} → List A → Type 0
AreApart [] = Unit {0}
AreApart (x ∷ xs) = (IsAmong x xs → ⊥) × AreApart xs

-- the list without one member
without : {A : Type 0} (x : A) (ys : List A) → IsAmong x ys → (zs : List A) × (length ys ≡ suc (length zs)) × ((y : A) → IsAmong y ys → (y ≡ x) ⊎ IsAmong y zs)
without x [] in_ = absurd in_
without x (y ∷ ys) (inl is) = (ys, refl, λ z in_. ⊎_elim (λ here. inl (here ∙ sym is)) (λ there. inr there) in_)
without {A} x (y ∷ ys) (inr in_) =
    let rest = without x ys in_ in
    (y ∷ rest.0, ap (λ n. suc n) rest.1, λ z among. ⊎_elim (λ here. inr (inl here)) (λ there. ⊎_elim (λ is. inl is) (λ more. inr (inr more)) (rest.2 z there)) among)

-- as many as they are, they find room
pub apart_fit : {A : Type 0} (xs ys : List A) → AreApart xs → ((x : A) → IsAmong x xs → IsAmong x ys) → length xs ≤ length ys
apart_fit [] ys apart all = omega arith
apart_fit (x ∷ xs) ys apart all =
    let rest = without x ys (all x (inl refl)) in
    let fits = apart_fit xs rest.0 apart.1 (λ y in_. ⊎_elim (λ is. absurd (apart.0 (subst (λ y. IsAmong y xs) is in_))) (λ there. there) (rest.2 y (all y (inr in_)))) in
    subst (λ n. suc (length xs) ≤ n) (sym rest.1) (omega (arith, fits))

-- ---- along pointers nothing comes twice

module _ (older : Place → Older) (is : Place → Older → Type 0) where
  open_step : (n : ℕ) (p q : Place) → IsAmong q (places_along (suc n) older p) → (p.page ≡ 0 → ⊥)
  open_step n p q in_ z = subst (IsAmong q) (ends_at (suc n) older p z) in_

  member_leads : (n : ℕ) (p q : Place) → Leads n older is p → IsAmong q (places_along n older p) → Leads n older is q
  member_leads zero p q leads in_ = absurd in_
  member_leads (suc n) p q leads in_ =
      let there = open_step n p q in_ in
      let parts = ⊎_elim (λ z. absurd (there z)) (λ more. more) leads in
      ⊎_elim (λ here. subst (Leads (suc n) older is) (sym here) leads) (λ later. leads_more older is n q (member_leads n (older p).pointer q parts.1 later)) (subst (IsAmong q) (goes_on n older p there) in_)

  member_shorter : (n : ℕ) (p q : Place) → Leads n older is p → IsAmong q (places_along n older p) → length (places_along n older q) ≤ length (places_along n older p)
  member_shorter zero p q leads in_ = absurd in_
  member_shorter (suc n) p q leads in_ =
      let there = open_step n p q in_ in
      let parts = ⊎_elim (λ z. absurd (there z)) (λ more. more) leads in
      ⊎_elim
      (λ here. subst (λ p. length (places_along (suc n) older q) ≤ length (places_along (suc n) older p)) here (omega arith))
      (λ later. let shorter = member_shorter n (older p).pointer q parts.1 later in
      subst (λ xs. length (places_along (suc n) older q) ≤ length xs) (sym (goes_on n older p there))
      (subst (λ xs. length xs ≤ suc (length (places_along n older (older p).pointer))) (sym (more_along older is n q (member_leads n (older p).pointer q parts.1 later))) (omega (arith, shorter))))
      (subst (IsAmong q) (goes_on n older p there) in_)

  pub along_apart : (n : ℕ) (p : Place) → Leads n older is p → AreApart (places_along n older p)
  along_apart zero p leads = tt
  along_apart (suc n) p leads = known (p.page == 0)
      (λ z. subst AreApart (sym (ends_at (suc n) older p (eqb-true p.page 0 z))) tt)
      (λ nz. let there : (p.page ≡ 0 → ⊥) = λ z. false≢true (sym nz ∙ eq-eqb p.page 0 z) in
      let parts = ⊎_elim (λ z. absurd (there z)) (λ more. more) leads in
      subst AreApart (sym (goes_on n older p there)) (
        λ twice. too_long (places_along n older p) (places_along (suc n) older p) (places_along n older (older p).pointer) (member_shorter n (older p).pointer p parts.1 twice)
            (sym (more_along older is n p (member_leads n (older p).pointer p parts.1 twice))) (goes_on n older p there),
        along_apart n (older p).pointer parts.1,
      ))
    where
      too_long : (xs ys zs : List Place) → length xs ≤ length zs → xs ≡ ys → ys ≡ p ∷ zs → ⊥
      too_long xs ys zs le one two = omega (arith, le, ap length (one ∙ two))

-- ---- how many places a chain of pages has

length-places : (p k n : ℕ) → length (places_on p k n) ≡ n
length-places p k zero = refl
length-places p k (suc n) = ap (λ m. suc m) (length-places p (k + 1) n)

length-pages : (n : ℕ) (head : ℕ → Header) (p : ℕ) → length (pages_from n head p) ≤ n
length-pages zero head p = omega arith
length-pages (suc n) head p =
    let rest = length-pages n head (head p).next in
    elim (p == 0) as (λ b. length (cond b [] (p ∷ pages_from n head (head p).next)) ≤ suc n) [ true ↦ omega arith | false ↦ omega (arith, rest) ]

bound : (l m most : ℕ) → l ≤ m * 170 → m ≤ most → l ≤ most * 170
bound l m most one two = omega (arith, one, two)

bound_is : pages_bound * 170 ≡ older_bound
unfolding older_bound pages_bound
bound_is = refl

module _ (area : Area) (rooms : (q : ℕ) → area.room q ≤ 170) where
  length-on : (ps : List ℕ) → length (flat_map (λ q. places_on q 0 (area.room q)) ps) ≤ length ps * 170
  length-on [] = omega arith
  length-on (p ∷ ps) =
      subst (λ l. l ≤ suc (length ps) * 170) (sym (length-append (places_on p 0 (area.room p)) (flat_map (λ q. places_on q 0 (area.room q)) ps) ∙ ap (λ l. l + length (flat_map (λ q. places_on q 0 (area.room q)) ps)) (length-places p 0 (area.room p))))
      (omega (arith, rooms p, length-on ps))

  pub kept_room : (e : ℕ) → length (older_places area e) ≤ older_bound
  kept_room e = subst (λ m. length (older_places area e) ≤ m) bound_is
      (bound (length (older_places area e)) (length (pages_from pages_bound area.header (area.firsts e).versions)) pages_bound (length-on (pages_from pages_bound area.header (area.firsts e).versions)) (length-pages pages_bound area.header (area.firsts e).versions))

  -- with an entry of the table that isn't on the way there is a step to spare
  pub short_along : (e : ℕ) (is : Place → Older → Type 0) (at p : Place) → ((q : Place) → is q (area.older q) → IsAmong q (older_places area e)) → IsAmong at (older_places area e) → (IsAmong at (places_along older_bound area.older p) → ⊥)
      → Leads older_bound area.older is p → length (places_along older_bound area.older p) < older_bound
  short_along e is at p gives in_ away leads =
      let all = all_along area.older is older_bound p leads in
      let fits = apart_fit (at ∷ places_along older_bound area.older p) (older_places area e) (away, along_apart area.older is older_bound p leads)
      (λ q among. ⊎_elim (λ here. subst (λ q. IsAmong q (older_places area e)) (sym here) in_) (λ there. gives q (each q (places_along older_bound area.older p) all there)) among) in
      omega (arith, fits, kept_room e)
    where
      each : (q : Place) (ps : List Place) → AllByRecursion (λ q. is q (area.older q)) ps → IsAmong q ps → is q (area.older q)
      each q [] all among = absurd among
      each q (r ∷ ps) all (inl here) = subst (λ q. is q (area.older q)) (sym here) all.0
      each q (r ∷ ps) all (inr there) = each q ps all.1 there

-- ---- steps to spare

pub leads_to : (older : Place → Older) (is : Place → Older → Type 0) (n m : ℕ) (p : Place) → m ≤ n → Leads m older is p → Leads n older is p
leads_to older is zero m p le leads = subst (λ m. Leads m older is p) (none m le) leads
  where
    none : (m : ℕ) → m ≤ 0 → m ≡ 0
    none m le = omega (arith, le)
leads_to older is (suc n) m p le leads = ⊎_elim (λ lt. leads_more older is n p (leads_to older is n m p (below m n lt) leads)) (λ ge. subst (λ m. Leads m older is p) (all m n le ge) leads) (cases_lt m (suc n))
  where
    below : (m n : ℕ) → m < suc n → m ≤ n
    below m n lt = omega (arith, lt)

    all : (m n : ℕ) → m ≤ suc n → suc n ≤ m → m ≡ suc n
    all m n le ge = omega (arith, le, ge)

pub bound_suc : (n : ℕ) × (older_bound ≡ suc n)
unfolding older_bound
bound_suc = (5099999, refl)

pub pages_nonzero : (n : ℕ) (head : ℕ → Header) (first p : ℕ) → IsAmong p (pages_from n head first) → p ≡ 0 → ⊥
pages_nonzero zero head first p in_ z = in_
pages_nonzero (suc n) head first p in_ z = known (first == 0)
    (λ is. subst (IsAmong p) (ap (λ b. cond b [] (first ∷ pages_from n head (head first).next)) is) in_)
    (λ isnt. ⊎_elim (λ here. false≢true (sym isnt ∙ eq-eqb first 0 (sym here ∙ z))) (λ there. pages_nonzero n head (head first).next p there z)
    (subst (IsAmong p) (ap (λ b. cond b [] (first ∷ pages_from n head (head first).next)) isnt) in_))
