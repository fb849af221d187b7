-- Chains of pages: with a page in front, and without.
use Rattle.std.proofs.Common.{◌≡◌, ◌⊎◌, ⊎_elim, inl, inr, ℕ, ◌+◌, ◌<◌, ◌≤◌, zero, suc, Bool, cond, List, [], ◌∷◌, ◌++◌, set, length, slice_index, refl, sym, ◌∙◌, ap, subst, arith}
use Rattle.std.proofs.lemmas.Bool.{false≢true, eq-eqb, eqb-true, ne_eqb}
use Rattle.std.specs.List.{flat_map, AllByRecursion}
use Rattle.std.specs.Prelude.{◌==◌}
use Rattle.ctr_area.specs.Areas.{Area}
use Rattle.ctr_area.specs.Chains.{pages_bound, pages_from, places_on, places_from}
use Rattle.ctr_area.specs.Sound.{IsAmong, how_many, EndsIn, IsOfRows, AreBuckets}
use Rattle.ctr_record_laws.proofs.Members.{among_front, among_rest, among_parts, count_append}
use Rattle.ctr_area.specs.ctr_page.declared.header.Header.{Header}
use Rattle.ctr_area.proofs.ctr_versions.Keys.{known}

-- so many steps, and one
pub steps : (n : ℕ) × (pages_bound ≡ suc n)
unfolding pages_bound
steps = (29999, refl)

module _ (header : ℕ → Header) where
  pub page_goes_on : (n p : ℕ) → (p ≡ 0 → ⊥) → pages_from (suc n) header p ≡ p ∷ pages_from n header (header p).next
  page_goes_on n p some = ap (λ b. cond b [] (p ∷ pages_from n header (header p).next)) (ne_eqb p 0 some)

  pub page_ends : (n p : ℕ) → p ≡ 0 → pages_from n header p ≡ []
  page_ends zero p is = refl
  page_ends (suc n) p is = ap (λ b. cond b [] (p ∷ pages_from n header (header p).next)) (eq-eqb p 0 is)

  abbrev tail_of : List ℕ → List ℕ
  tail_of [] = []
  tail_of (x ∷ xs) = xs

  -- a chain that ends within so many steps ends within one more
  pub still_ends : (n p : ℕ) → pages_from (suc n) header p ≡ pages_from n header p → pages_from (suc (suc n)) header p ≡ pages_from (suc n) header p
  still_ends zero p ends = known (p == 0)
      (λ is. page_ends 2 p (eqb-true p 0 is) ∙ sym (page_ends 1 p (eqb-true p 0 is)))
      (λ isnt. absurd (too_long (pages_from 0 header (header p).next) (sym (page_goes_on 0 p (λ z. false≢true (sym isnt ∙ eq-eqb p 0 z))) ∙ ends)))
    where
      too_long : (ps : List ℕ) → p ∷ ps ≡ [] → ⊥
      too_long ps is = let no_length = ap length is in omega (arith, no_length)
  still_ends (suc n) p ends = known (p == 0)
      (λ is. page_ends (suc (suc (suc n))) p (eqb-true p 0 is) ∙ sym (page_ends (suc (suc n)) p (eqb-true p 0 is)))
      (λ isnt. let some : p ≡ 0 → ⊥ = λ z. false≢true (sym isnt ∙ eq-eqb p 0 z) in
      page_goes_on (suc (suc n)) p some
      ∙ ap (λ ps. p ∷ ps) (still_ends n (header p).next (ap tail_of (sym (page_goes_on (suc n) p some) ∙ ends ∙ page_goes_on n p some)))
      ∙ sym (page_goes_on (suc n) p some))

  -- a chain that is shorter than the steps
  pub short_ends : (n p : ℕ) → length (pages_from (suc n) header p) ≤ n → pages_from (suc n) header p ≡ pages_from n header p
  short_ends zero p short = known (p == 0)
      (λ is. page_ends 1 p (eqb-true p 0 is))
      (λ isnt. absurd (none (pages_from 0 header (header p).next) (subst (λ ps. length ps ≤ 0) (page_goes_on 0 p (λ z. false≢true (sym isnt ∙ eq-eqb p 0 z))) short)))
    where
      none : (ps : List ℕ) → length (p ∷ ps) ≤ 0 → ⊥
      none ps le = omega (arith, le)
  short_ends (suc n) p short = known (p == 0)
      (λ is. page_ends (suc (suc n)) p (eqb-true p 0 is) ∙ sym (page_ends (suc n) p (eqb-true p 0 is)))
      (λ isnt. let some : p ≡ 0 → ⊥ = λ z. false≢true (sym isnt ∙ eq-eqb p 0 z) in
      page_goes_on (suc n) p some ∙ ap (λ ps. p ∷ ps) (short_ends n (header p).next (less (pages_from (suc n) header (header p).next) (subst (λ ps. length ps ≤ suc n) (page_goes_on (suc n) p some) short)))
      ∙ sym (page_goes_on n p some))
    where
      less : (ps : List ℕ) → length (p ∷ ps) ≤ suc n → length ps ≤ n
      less ps le = omega (arith, le)

  -- ---- a page in front of a chain that ends

  module _ (p next : ℕ) (some : p ≡ 0 → ⊥) (leads : (header p).next ≡ next) where
    -- with a step to spare
    pub front_chain : length (pages_from pages_bound header next) < pages_bound → pages_from pages_bound header p ≡ p ∷ pages_from pages_bound header next
    front_chain short =
        ap (λ m. pages_from m header p) steps.1 ∙ page_goes_on steps.0 p some ∙ ap (λ q. p ∷ pages_from steps.0 header q) leads
        ∙ ap (λ ps. p ∷ ps) (sym (short_ends steps.0 next (less (length (pages_from (suc steps.0) header next)) steps.0 (subst (λ m. length (pages_from m header next) < m) steps.1 short))) ∙ ap (λ m. pages_from m header next) (sym steps.1))
      where
        less : (a b : ℕ) → a < suc b → a ≤ b
        less a b lt = omega (arith, lt)

    pub front_ends : (Is : Header → Type 0) → pages_from pages_bound header p ≡ p ∷ pages_from pages_bound header next → Is (header p) → EndsIn pages_bound header Is next → EndsIn pages_bound header Is p
    front_ends Is front its ends = (
      subst (AllByRecursion (λ q. Is (header q))) (sym front) (its, ends.0),
      ap (λ m. pages_from m header p) one_more ∙ page_goes_on pages_bound p some ∙ ap (λ q. p ∷ pages_from pages_bound header q) leads ∙ sym front,
    )
      where
        one_more : pages_bound + 1 ≡ suc pages_bound
        one_more = plus pages_bound
          where
            plus : (n : ℕ) → n + 1 ≡ suc n
            plus n = omega arith

    -- ---- and without it

    pub behind_chain : (Is : Header → Type 0) → EndsIn pages_bound header Is p → (pages_from pages_bound header p ≡ p ∷ pages_from pages_bound header next) × EndsIn pages_bound header Is next
    behind_chain Is ends =
        let m = steps.0 in
        let here : pages_from pages_bound header p ≡ p ∷ pages_from m header next =
        ap (λ m. pages_from m header p) steps.1 ∙ page_goes_on m p some ∙ ap (λ q. p ∷ pages_from m header q) leads in
        let longer : pages_from (pages_bound + 1) header p ≡ p ∷ pages_from pages_bound header next =
        ap (λ m. pages_from m header p) (plus pages_bound) ∙ page_goes_on pages_bound p some ∙ ap (λ q. p ∷ pages_from pages_bound header q) leads in
        let short : pages_from pages_bound header next ≡ pages_from m header next = ap tail_of (sym longer ∙ ends.1 ∙ here) in
        let front : pages_from pages_bound header p ≡ p ∷ pages_from pages_bound header next = here ∙ ap (λ ps. p ∷ ps) (sym short) in (
          front,
          (
            (subst (AllByRecursion (λ q. Is (header q))) front ends.0).1,
            ap (λ m. pages_from m header next) (plus pages_bound ∙ ap (λ m. suc m) steps.1)
                ∙ still_ends m next (ap (λ m. pages_from m header next) (sym steps.1) ∙ short)
                ∙ ap (λ m. pages_from m header next) (sym steps.1),
          ),
        )
      where
        plus : (n : ℕ) → n + 1 ≡ suc n
        plus n = omega arith

-- the places on the pages of such a chain
pub front_places : (area : Area) (p next : ℕ) → pages_from pages_bound area.header p ≡ p ∷ pages_from pages_bound area.header next → places_from area p ≡ places_on p 0 (area.room p) ++ places_from area next
front_places area p next front = ap (flat_map (λ q. places_on q 0 (area.room q))) front

-- ---- one of several lists is another

module _ {A : Type 0} (g : ℕ → List A) where
  pub set_count : (test : A → Bool) (ps : List ℕ) (b y : ℕ) → b < length ps
      → how_many test (flat_map g (set ps b y)) + how_many test (g (slice_index ps b)) ≡ how_many test (flat_map g ps) + how_many test (g y)
  set_count test [] b y lt = absurd (omega (arith, lt))
  set_count test (p ∷ ps) zero y lt =
      turned (how_many test (flat_map g (y ∷ ps))) (how_many test (flat_map g (p ∷ ps))) (how_many test (g y)) (how_many test (g p)) (how_many test (flat_map g ps)) (count_append test (g y) (flat_map g ps)) (count_append test (g p) (flat_map g ps))
    where
      turned : (a b c d e : ℕ) → a ≡ c + e → b ≡ d + e → a + d ≡ b + c
      turned a b c d e one two = omega (arith, one, two)
  set_count test (p ∷ ps) (suc b) y lt =
      turned (how_many test (g p)) (how_many test (flat_map g (set ps b y))) (how_many test (flat_map g ps)) (how_many test (g (slice_index ps b))) (how_many test (g y))
      (how_many test (flat_map g (p ∷ set ps b y))) (how_many test (flat_map g (p ∷ ps)))
      (set_count test ps b y (less (length ps) lt)) (count_append test (g p) (flat_map g (set ps b y))) (count_append test (g p) (flat_map g ps))
    where
      less : (n : ℕ) → suc b < suc n → b < n
      less n lt = omega (arith, lt)

      turned : (h a c s y u v : ℕ) → a + s ≡ c + y → u ≡ h + a → v ≡ h + c → u + s ≡ v + y
      turned h a c s y u v is one two = omega (arith, is, one, two)

  pub set_among : (x : A) (ps : List ℕ) (b y : ℕ) → IsAmong x (flat_map g (set ps b y)) → IsAmong x (g y) ⊎ IsAmong x (flat_map g ps)
  set_among x [] b y in_ = absurd in_
  set_among x (p ∷ ps) zero y in_ = ⊎_elim (λ here. inl here) (λ there. inr (among_rest x (g p) (flat_map g ps) there)) (among_parts x (g y) (flat_map g ps) in_)
  set_among x (p ∷ ps) (suc b) y in_ = ⊎_elim
      (λ here. inr (among_front x (g p) (flat_map g ps) here))
      (λ there. ⊎_elim (λ new. inl new) (λ was. inr (among_rest x (g p) (flat_map g ps) was)) (set_among x ps b y there))
      (among_parts x (g p) (flat_map g (set ps b y)) in_)

  pub one_among : (x : A) (ps : List ℕ) (b : ℕ) → b < length ps → IsAmong x (g (slice_index ps b)) → IsAmong x (flat_map g ps)
  one_among x [] b lt in_ = absurd (omega (arith, lt))
  one_among x (p ∷ ps) zero lt in_ = among_front x (g p) (flat_map g ps) in_
  one_among x (p ∷ ps) (suc b) lt in_ = among_rest x (g p) (flat_map g ps) (one_among x ps b (less (length ps) lt) in_)
    where
      less : (n : ℕ) → suc b < suc n → b < n
      less n lt = omega (arith, lt)

  pub one_count : (test : A → Bool) (ps : List ℕ) (b : ℕ) → b < length ps → how_many test (g (slice_index ps b)) ≤ how_many test (flat_map g ps)
  one_count test [] b lt = absurd (omega (arith, lt))
  one_count test (p ∷ ps) zero lt = up (how_many test (flat_map g (p ∷ ps))) (how_many test (g p)) (how_many test (flat_map g ps)) (count_append test (g p) (flat_map g ps))
    where
      up : (a b c : ℕ) → a ≡ b + c → b ≤ a
      up a b c is = omega (arith, is)
  one_count test (p ∷ ps) (suc b) lt =
      up (how_many test (flat_map g (p ∷ ps))) (how_many test (g p)) (how_many test (flat_map g ps)) (how_many test (g (slice_index ps b))) (count_append test (g p) (flat_map g ps)) (one_count test ps b (less (length ps) lt))
    where
      less : (n : ℕ) → suc b < suc n → b < n
      less n lt = omega (arith, lt)

      up : (a b c d : ℕ) → a ≡ b + c → d ≤ c → d ≤ a
      up a b c d is le = omega (arith, is, le)

-- a bucket's chain, by its number
pub bucket_chain : (area : Area) (e from b : ℕ) (ps : List ℕ) → b < length ps → AreBuckets area e from ps → EndsIn pages_bound area.header (IsOfRows e (from + b)) (slice_index ps b)
bucket_chain area e from b [] lt buckets = absurd (omega (arith, lt))
bucket_chain area e from zero (p ∷ ps) lt buckets = subst (λ n. EndsIn pages_bound area.header (IsOfRows e n) p) (plain from) buckets.0
  where
    plain : (n : ℕ) → n ≡ n + 0
    plain n = omega arith
bucket_chain area e from (suc b) (p ∷ ps) lt buckets = subst (λ n. EndsIn pages_bound area.header (IsOfRows e n) (slice_index ps b)) (turned from b) (bucket_chain area e (from + 1) b ps (less b (length ps) lt) buckets.1)
  where
    less : (b n : ℕ) → suc b < suc n → b < n
    less b n lt = omega (arith, lt)

    turned : (n b : ℕ) → n + 1 + b ≡ n + suc b
    turned n b = omega arith

pub buckets_with : (area : Area) (e from b y : ℕ) (ps : List ℕ) → AreBuckets area e from ps → EndsIn pages_bound area.header (IsOfRows e (from + b)) y → AreBuckets area e from (set ps b y)
buckets_with area e from b y [] buckets ends = tt
buckets_with area e from zero y (p ∷ ps) buckets ends = (subst (λ n. EndsIn pages_bound area.header (IsOfRows e n) y) (plain from) ends, buckets.1)
  where
    plain : (n : ℕ) → n + 0 ≡ n
    plain n = omega arith
buckets_with area e from (suc b) y (p ∷ ps) buckets ends = (buckets.0, buckets_with area e (from + 1) b y ps buckets.1 (subst (λ n. EndsIn pages_bound area.header (IsOfRows e n) y) (turned from b) ends))
  where
    turned : (n b : ℕ) → n + suc b ≡ n + 1 + b
    turned n b = omega arith
