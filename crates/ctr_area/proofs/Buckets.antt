-- The slot of a key is in the chain of the key's bucket.
use Rattle.std.proofs.Common.{◌≡◌, ◌⊎◌, ⊎_elim, inl, inr, ℕ, zero, suc, ◌+◌, ◌<◌, ◌≤◌, ℤ, List, [], ◌∷◌, ◌++◌, slice_index, refl, sym, ◌∙◌, ap, subst, arith}
use Rattle.std.specs.List.{flat_map, AllByRecursion}
use Rattle.ctr_page.specs.declared.header.Header.{Header}
use Rattle.ctr_page.specs.declared.rows.Place.{Place}
use Rattle.ctr_page.specs.Places.{bucket_of}
use Rattle.ctr_area.specs.Areas.{Area}
use Rattle.ctr_area.specs.Chains.{pages_bound, pages_from, places_on, places_from, bucket_first}
use Rattle.ctr_area.specs.Sound.{IsAmong, IsUsedSlot, IsOfRows, AreBuckets, AreReadable, AreKeyed}

-- ---- one of many

pub each_of : {A : Type 0} (P : A → Type 0) (x : A) (xs : List A) → AllByRecursion P xs → IsAmong x xs → P x
each_of P x [] all in_ = absurd in_
each_of P x (y ∷ ys) all (inl is) = subst P (sym is) all.0
each_of P x (y ∷ ys) all (inr in_) = each_of P x ys all.1 in_

among_parts : {A : Type 0} (x : A) (xs ys : List A) → IsAmong x (xs ++ ys) → IsAmong x xs ⊎ IsAmong x ys
among_parts x [] ys in_ = inr in_
among_parts x (y ∷ xs) ys (inl is) = inl (inl is)
among_parts x (y ∷ xs) ys (inr in_) = ⊎_elim (λ a. inl (inr a)) (λ b. inr b) (among_parts x xs ys in_)

among_front : {A : Type 0} (x : A) (xs ys : List A) → IsAmong x xs → IsAmong x (xs ++ ys)
among_front x [] ys in_ = absurd in_
among_front x (y ∷ xs) ys (inl is) = inl is
among_front x (y ∷ xs) ys (inr in_) = inr (among_front x xs ys in_)

among_rest : {A : Type 0} (x : A) (xs ys : List A) → IsAmong x ys → IsAmong x (xs ++ ys)
among_rest x [] ys in_ = in_
among_rest x (y ∷ xs) ys in_ = inr (among_rest x xs ys in_)

among_flat : {A B : Type 0} (f : A → List B) (x : B) (xs : List A) → IsAmong x (flat_map f xs) → (a : A) × IsAmong a xs × IsAmong x (f a)
among_flat f x [] in_ = absurd in_
among_flat f x (a ∷ as_) in_ = ⊎_elim (λ here. (a, inl refl, here)) (λ there. let found = among_flat f x as_ there in (found.0, inr found.1, found.2)) (among_parts x (f a) (flat_map f as_) in_)

flat_among : {A B : Type 0} (f : A → List B) (x : B) (a : A) (xs : List A) → IsAmong a xs → IsAmong x (f a) → IsAmong x (flat_map f xs)
flat_among f x a [] in_ there = absurd in_
flat_among f x a (y ∷ ys) (inl is) there = among_front x (f y) (flat_map f ys) (subst (λ z. IsAmong x (f z)) is there)
flat_among f x a (y ∷ ys) (inr in_) there = among_rest x (f y) (flat_map f ys) (flat_among f x a ys in_ there)

-- ---- places on pages

on_page : (q k n : ℕ) (at : Place) → IsAmong at (places_on q k n) → (at.page ≡ q) × (k ≤ at.slot) × (at.slot < k + n)
on_page q k zero at in_ = absurd in_
on_page q k (suc n) at (inl is) =
    let slot : at.slot ≡ k = ap (λ (p : Place). p.slot) is in
    (ap (λ (p : Place). p.page) is, omega (arith, slot), omega (arith, slot))
on_page q k (suc n) at (inr in_) =
    let rest = on_page q (k + 1) n at in_ in
    (rest.0, omega (arith, rest.1), omega (arith, rest.2))

place_on : (q k n m : ℕ) → m < n → IsAmong (record { page = q; slot = k + m }) (places_on q k n)
place_on q k zero m lt = absurd (omega (arith, lt))
place_on q k (suc n) zero lt = inl (λ i. record { page = q; slot = (let e : k + 0 ≡ k = omega arith in e) i })
place_on q k (suc n) (suc m) lt = inr (subst (λ s. IsAmong (record { page = q; slot = s }) (places_on q (k + 1) n)) (let e : k + 1 + m ≡ k + suc m = omega arith in e) (place_on q (k + 1) n m (omega (arith, lt))))

-- a place on a page of a chain, both ways
pub on_chain : (area : Area) (first : ℕ) (at : Place) → IsAmong at (places_from area first) → IsAmong at.page (pages_from pages_bound area.header first) × (at.slot < area.room at.page)
on_chain area first at in_ =
    let found = among_flat (λ q. places_on q 0 (area.room q)) at (pages_from pages_bound area.header first) in_ in
    let here = on_page found.0 0 (area.room found.0) at found.2 in
    (subst (λ q. IsAmong q (pages_from pages_bound area.header first)) (sym here.0) found.1, subst (λ q. at.slot < area.room q) (sym here.0) (from_0 at.slot (area.room found.0) here.2))
  where
    from_0 : (m n : ℕ) → m < 0 + n → m < n
    from_0 m n lt = omega (arith, lt)

pub in_chain : (area : Area) (first p n : ℕ) → IsAmong p (pages_from pages_bound area.header first) → n < area.room p → IsAmong (record { page = p; slot = n }) (places_from area first)
in_chain area first p n in_ lt = flat_among (λ q. places_on q 0 (area.room q)) (record { page = p; slot = n }) p (pages_from pages_bound area.header first) in_
    (subst (λ m. IsAmong (record { page = p; slot = m }) (places_on p 0 (area.room p))) (from_0 n) (place_on p 0 (area.room p) n lt))
  where
    from_0 : (m : ℕ) → 0 + m ≡ m
    from_0 m = omega arith

-- ---- buckets

-- the first page of a bucket is one of the first pages, where its chain has a place
pub of_bucket : (area : Area) (at : Place) (n : ℕ) (ps : List ℕ) → IsAmong at (places_from area (slice_index ps n)) → (IsAmong at (places_from area 0) → ⊥) → IsAmong at (flat_map (places_from area) ps)
of_bucket area at n [] in_ none = absurd (none in_)
of_bucket area at zero (p ∷ ps) in_ none = among_front at (places_from area p) (flat_map (places_from area) ps) in_
of_bucket area at (suc n) (p ∷ ps) in_ none = among_rest at (places_from area p) (flat_map (places_from area) ps) (of_bucket area at n ps in_ none)

no_pages_from : (n : ℕ) (header : ℕ → Header) → pages_from n header 0 ≡ []
no_pages_from zero header = refl
no_pages_from (suc n) header = refl

pub nothing_from_0 : (area : Area) (at : Place) → IsAmong at (places_from area 0) → ⊥
nothing_from_0 area at in_ = subst (λ ps. IsAmong at (flat_map (λ q. places_on q 0 (area.room q)) ps) → ⊥) (sym (no_pages_from pages_bound area.header)) (λ none. none) in_

module _ (area : Area) (e : ℕ) (at : Place) where
  first_bucket : (b p : ℕ) (ps : List ℕ) → AreBuckets area e b (p ∷ ps) → IsAmong at (places_from area p) → (area.header at.page).bucket ≡ b
  first_bucket b p ps buckets in_ =
      (each_of (λ q. IsOfRows e b (area.header q)) at.page (pages_from pages_bound area.header p) buckets.0.0 (on_chain area p at in_).0).2

  from_bucket : (b : ℕ) (ps : List ℕ) → AreBuckets area e b ps → IsAmong at (flat_map (places_from area) ps) → b ≤ (area.header at.page).bucket
  from_bucket b [] buckets in_ = absurd in_
  from_bucket b (p ∷ ps) buckets in_ = ⊎_elim
      (λ here. subst (λ m. b ≤ m) (sym (first_bucket b p ps buckets here)) (omega arith))
      (λ there. lower b (area.header at.page).bucket (from_bucket (b + 1) ps buckets.1 there)) (among_parts at (places_from area p) (flat_map (places_from area) ps) in_)
    where
      lower : (b m : ℕ) → b + 1 ≤ m → b ≤ m
      lower b m le = omega (arith, le)

  in_bucket : (b n : ℕ) (ps : List ℕ) → AreBuckets area e b ps → IsAmong at (flat_map (places_from area) ps) → (area.header at.page).bucket ≡ b + n → IsAmong at (places_from area (slice_index ps n))
  in_bucket b n [] buckets in_ is = absurd in_
  in_bucket b zero (p ∷ ps) buckets in_ is = ⊎_elim (λ here. here)
      (λ there. absurd (too_far b (area.header at.page).bucket is (from_bucket (b + 1) ps buckets.1 there))) (among_parts at (places_from area p) (flat_map (places_from area) ps) in_)
    where
      too_far : (b m : ℕ) → m ≡ b + 0 → b + 1 ≤ m → ⊥
      too_far b m is le = omega (arith, is, le)
  in_bucket b (suc n) (p ∷ ps) buckets in_ is = ⊎_elim
      (λ here. absurd (too_near b n (area.header at.page).bucket is (first_bucket b p ps buckets here)))
      (λ there. in_bucket (b + 1) n ps buckets.1 there (is ∙ turned b n)) (among_parts at (places_from area p) (flat_map (places_from area) ps) in_)
    where
      too_near : (b n m : ℕ) → m ≡ b + suc n → m ≡ b → ⊥
      too_near b n m is one = omega (arith, is, one)

      turned : (b n : ℕ) → b + suc n ≡ (b + 1) + n
      turned b n = omega arith

  pub bucket_suffices : AreReadable area → AreKeyed area → (key : ℤ) → IsUsedSlot area e at → (area.slot at).key ≡ key → IsAmong at (places_from area (bucket_first area e key))
  bucket_suffices readable keyed key used is =
      in_bucket 0 (bucket_of key) (area.firsts e).buckets (readable.rows e) used.0 (keyed.bucket e at used ∙ ap bucket_of is ∙ plain (bucket_of key))
    where
      plain : (n : ℕ) → n ≡ 0 + n
      plain n = omega arith
