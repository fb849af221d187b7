-- The walk along the pages of a bucket, page by page.
use Rattle.std.proofs.Common.{◌≡◌, inl, ℕ, Err, zero, suc, ◌+◌, ◌-◌, ◌<◌, ◌≤◌, ℤ, Bool, List, [], ◌∷◌, ◌++◌, length, refl, sym, ◌∙◌, ap, subst, arith}
use Rattle.std.proofs.lemmas.List.{append_assoc, length-append}
use Rattle.ctr_types.specs.declared.value.Row.{Row}
use Rattle.ctr_page.specs.declared.checks.Chain.{Chain}
use Rattle.ctr_redo.specs.States.{State}
use Rattle.ctr_area.specs.Areas.{Area}
use Rattle.ctr_area.specs.Chains.{pages_bound, pages_from, places_from}
use Rattle.ctr_area.specs.Sound.{IsAmong}
use Rattle.ctr_record_laws.proofs.Ends.{page_goes_on}
use Rattle.ctr_record_laws.proofs.Members.{among_rest}
use Rattle.ctr_walk.specs.record_effects_States.{area_in}
use Rattle.ctr_reading.specs.Gathering.{gathered, Gathers, IsBucketPage, IsBucket}
use Rattle.ctr_reading.proofs.Gathers.{refused_further, on_page, pages_places, page_step, pages_end}
use Rattle.ctr_reading.proofs.Places.{few_pages}
use Rattle.std.specs.Prelude.{IfOk}
use Rattle.ctr_views.specs.chain_ReadRefusal.{ReadRefusal}
use Rattle.ctr_reading.specs.Reading.{as_told}

-- a chain has fewer pages than steps
pub few_steps : (counted : ℕ) → counted ≤ 30000 → counted - 3 < pages_bound
unfolding pages_bound
few_steps counted few = omega (arith, few)

-- So far is the walk: behind these pages it stands at one, with so many steps left. What is gathered of the pages from there on is
-- what is gathered of all.
pub record IsWalked (test : ℕ → Bool) (area : Area) (first most at left : ℕ) (old rows : List (ℤ × Row)) : Type 0 where
  pub done : List ℕ
  pub n : ℕ
  pub whole : pages_from pages_bound area.header first ≡ done ++ pages_from n area.header at
  pub count : length done + left ≡ most
  pub more : left < n
  pub rest : gathered test area (pages_places test area n at) rows ≡ gathered test area (places_from area first) old

module _ (test : ℕ → Bool) (area : Area) (first most : ℕ) (old : List (ℤ × Row)) where
  pub walk_begins : most < pages_bound → IsWalked test area first most first most old old
  walk_begins lt = let none : 0 + most ≡ most = omega arith in record { done = []; n = pages_bound; whole = refl; count = none; more = lt; rest = refl }

  module _ (at left : ℕ) (rows : List (ℤ × Row)) (walked : IsWalked test area first most at left old rows) where
    one_less : (left : ℕ) → left < walked.n → (m : ℕ) × (walked.n ≡ suc m) × (left ≤ m)
    one_less left lt = by walked.n lt
      where
        by : (n : ℕ) → left < n → (m : ℕ) × (n ≡ suc m) × (left ≤ m)
        by zero lt = absurd (omega (arith, lt))
        by (suc m) lt = (m, refl, omega (arith, lt))

    at_page : (some : at ≡ 0 → ⊥) → (m : ℕ) × (walked.n ≡ suc m) × (left ≤ m) × (pages_from pages_bound area.header first ≡ walked.done ++ (at ∷ pages_from m area.header (area.header at).next))
    at_page some =
        let less = one_less left walked.more in
        (less.0, less.1, less.2, walked.whole ∙ ap (λ k. walked.done ++ pages_from k area.header at) less.1 ∙ ap (λ ps. walked.done ++ ps) (page_goes_on area.header less.0 at some))

    pub walk_refused : (at ≡ 0 → ⊥) → (S T : Type 0) (e : ReadRefusal) (here others : List (ℤ × Row)) → IfOk (as_told {T = S} (Err e)) (Gathers (gathered test area (on_page test area at) rows) here)
        → IfOk (as_told {T = T} (Err e)) (Gathers (gathered test area (places_from area first) old) others)
    walk_refused some S T e here others holds =
        let now = at_page some in
        refused_further test area S T (pages_places test area now.0 (area.header at).next) (gathered test area (on_page test area at) rows) (gathered test area (places_from area first) old) here others e
        (sym (page_step test area now.0 at rows some) ∙ ap (λ k. gathered test area (pages_places test area k at) rows) (sym now.1) ∙ walked.rest) holds

    pub walk_ends : at ≡ 0 → rows ≡ gathered test area (places_from area first) old
    walk_ends none = sym (pages_end test area walked.n at rows none) ∙ walked.rest

    pub is_on : (at ≡ 0 → ⊥) → IsAmong at (pages_from pages_bound area.header first)
    is_on some = let here = at_page some in subst (IsAmong at) (sym here.3) (among_rest at walked.done (at ∷ pages_from here.0 area.header (area.header at).next) (inl refl))

    -- so there are more pages than steps were left, where none is
    pub too_many : (at ≡ 0 → ⊥) → left ≡ 0 → length (pages_from pages_bound area.header first) ≤ most → ⊥
    too_many some none few =
        let here = at_page some in
        long (length walked.done) (length (pages_from here.0 area.header (area.header at).next)) (length (pages_from pages_bound area.header first))
        (ap length here.3 ∙ length-append walked.done (at ∷ pages_from here.0 area.header (area.header at).next)) few walked.count
      where
        long : (d m k : ℕ) → k ≡ d + suc m → k ≤ most → d + left ≡ most → ⊥
        long d m k is le count = omega (arith, is, le, count, none)

    pub walk_on : (at ≡ 0 → ⊥) → (rest : ℕ) (next : ℕ) → left ≡ suc rest → next ≡ (area.header at).next → IsWalked test area first most next rest old (gathered test area (on_page test area at) rows)
    walk_on some rest next goes is =
        let here = at_page some in
        subst (λ q. IsWalked test area first most q rest old (gathered test area (on_page test area at) rows)) (sym is) (record {
          done = walked.done ++ (at ∷ []);
          n = here.0;
          whole = here.3 ∙ sym (append_assoc walked.done (at ∷ []) (pages_from here.0 area.header (area.header at).next));
          count = counted (length walked.done) (length (walked.done ++ (at ∷ []))) (length-append walked.done (at ∷ [])) walked.count;
          more = lower here.0 here.2;
          rest = sym (page_step test area here.0 at rows some) ∙ ap (λ k. gathered test area (pages_places test area k at) rows) (sym here.1) ∙ walked.rest;
        })
      where
        counted : (d k : ℕ) → k ≡ d + 1 → d + left ≡ most → k + rest ≡ most
        counted d k is count = omega (arith, is, count, goes)

        lower : (m : ℕ) → left ≤ m → rest < m
        lower m le = omega (arith, le, goes)

-- ---- a bucket of a database

pub bucket_page : (chain : Chain) (first at : ℕ) (s : State) → IsBucket chain first s → IsAmong at (pages_from pages_bound (area_in s).header first) → IsBucketPage chain at s
bucket_page chain first at s bucket on = record {
  sound = bucket.sound;
  rows = bucket.rows;
  on = subst (λ f. IsAmong at (pages_from pages_bound (area_in s).header f)) bucket.first on;
}

-- it has no more pages than there can be
pub bucket_few : (chain : Chain) (first at : ℕ) (s : State) → IsBucket chain first s → IsAmong at (pages_from pages_bound (area_in s).header first) → length (pages_from pages_bound (area_in s).header first) ≤ s.counted - 3
bucket_few chain first at s bucket on = subst (λ f. length (pages_from pages_bound (area_in s).header f) ≤ s.counted - 3) (sym bucket.first) (few_pages chain at s (bucket_page chain first at s bucket on))
