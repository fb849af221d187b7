-- What is remembered of a bucket, as one page more is, or one has other bytes.
use Rattle.std.proofs.Common.{◌≡◌, ◌≢◌, ℕ, ◌+◌, ◌/◌, ◌≤◌, ◌<◌, ℤ, true, false, cond, List, [], ◌∷◌, ◌++◌, length, length-append, Option, None, Some, refl, sym, ◌∙◌, ap, subst, arith}
use Rattle.std.specs.Prelude.{◌==◌, ◌&&◌, nat_eq, nat_lt}
use Rattle.std.proofs.lemmas.Bool.{eqb-true, eqb-false, ltb-true}
use Rattle.indexmap.specs.IndexSet.{contains, index_set_len}
use Rattle.indexmap.specs.IndexMap.{get}
use Rattle.std.specs.Ordering.{int_eq}
use Rattle.ctr_page.specs.declared.rows.Place.{Place}
use Rattle.ctr_page.specs.Reading.{header_in}
use Rattle.ctr_directory.specs.declared.remembered.Remembered.{Remembered}
use Rattle.ctr_directory.specs.declared.slots.Span.{Span}
use Rattle.ctr_directory.specs.Keys.{key_on, key_before, slots_of_kinds, AllUsed, SlotsPass, SlotsStay, KeysLead, over_slots}
use Rattle.ctr_directory.proofs.Agreeing.{all_stay}
use Rattle.ctr_directory.specs.Chains.{RowPagePasses, RunsAlong, BucketSaid, kinds_kept, checks_of, keys_in, IsRememberedBucket, ChangesPage, is_page_of, SparesTell, TellsKey, IsPlaceTold, KnowsChain, Knows, KnowsFull}
use Rattle.ctr_directory.proofs.Leading.{by_test, leads_same}
use Rattle.ctr_directory.proofs.Along.{has_on, each_passes, runs_moved, runs_on}
use Rattle.ctr_directory.proofs.Keeping.{its_key, no_key, page_changed, page_elsewhere}
use Rattle.ctr_directory.proofs.Sparing.{spares_changed, spares_apart, none_is_in}

module _ (counted : ℕ) (pages : ℕ → List ℕ) (s t : Remembered) (number : ℕ) (some : number ≢ 0) (old : IsRememberedBucket counted pages s)
    (same : t ≡ record s { pages = t.pages; places = t.places; spare = t.spare }) (passes : RowPagePasses (checks_of counted s) (pages number))
    (added : (q : ℕ) → contains nat_eq t.pages q ≡ cond (number == q) true (contains nat_eq s.pages q))
    (long : (index_set_len t.pages ≡ index_set_len s.pages + 1) × (index_set_len t.pages + 3 ≤ counted))
    (leads : KeysLead (keys_in t.pages (kinds_kept s) pages) t.places) (spares : SparesTell t.pages t.spare (kinds_kept s) pages) where
  -- in front of the others
  pub before_others : (number ≡ s.first) → ((header_in (pages number)).next ≡ s.head) → IsRememberedBucket counted pages (record t { head = number })
  before_others first next =
      subst (λ (x : Remembered). IsRememberedBucket counted pages (record x { head = number })) (sym same) (record {
        said = old.said;
        chain = number ∷ old.chain;
        runs = (refl, some, passes, subst (λ n. RunsAlong (RowPagePasses (checks_of counted s)) pages n old.chain s.rest) (sym next) old.runs);
        few = omega (arith, long.0, long.1, old.long);
        long = omega (arith, long.0, old.long);
        there = λ p. added p ∙ ap (λ b. cond (number == p) true b) (old.there p);
        leads = leads;
        spares = spares;
      })

  -- behind them
  pub behind_others : (next : ℕ) → (number ≡ s.rest) → next ≡ (header_in (pages number)).next → IsRememberedBucket counted pages (record t { rest = next })
  behind_others next rest goes =
      let longer : length (old.chain ++ number ∷ []) ≡ length old.chain + 1 = length-append old.chain (number ∷ []) in
      subst (λ (x : Remembered). IsRememberedBucket counted pages (record x { rest = next })) (sym same) (record {
        said = old.said;
        chain = old.chain ++ number ∷ [];
        runs = subst (λ n. RunsAlong (RowPagePasses (checks_of counted s)) pages s.head (old.chain ++ number ∷ []) n) (sym goes)
            (runs_on (RowPagePasses (checks_of counted s)) pages s.head old.chain number (subst (λ n. RunsAlong (RowPagePasses (checks_of counted s)) pages s.head old.chain n) (sym rest) old.runs) some passes);
        few = omega (arith, longer, long.0, long.1, old.long);
        long = omega (arith, longer, long.0, old.long);
        there = λ p. added p ∙ ap (λ b. cond (number == p) true b) (old.there p) ∙ sym (has_on p number old.chain);
        leads = leads;
        spares = spares;
      })

-- one page has other bytes
module _ (counted number : ℕ) (span : Span) (before after : List ℕ) (a b : ℕ → List ℕ) (changes : ChangesPage number span before after a b) (s : Remembered) (old : IsRememberedBucket counted a s) where
  -- what it had in its slots
  pub was_there : length before ≡ 4096 → contains nat_eq s.pages number ≡ true → (n : ℕ) → n < slots_of_kinds (kinds_kept s) → keys_in s.pages (kinds_kept s) a number n ≡ key_before (kinds_kept s) n before
  was_there whole is n lt =
      its_key s.pages (kinds_kept s) a number n is lt
      ∙ ap (λ page. key_on (kinds_kept s) n page) changes.was
      ∙ sym (ap (λ k. cond (k == 0) None (key_on (kinds_kept s) n before)) whole)

  -- its slots that lie outside of the changed bytes stay
  pub slots_stay : length before ≡ 4096 → length after ≡ 4096 → contains nat_eq s.pages number ≡ true → SlotsStay (kinds_kept s) counted span before after
  slots_stay was is there =
      let passes = each_passes (RowPagePasses (checks_of counted s)) a s.head old.chain s.rest number old.runs (sym (old.there number) ∙ there) in
      all_stay (kinds_kept s) counted span before after was is changes.outside (subst (λ page. SlotsPass (kinds_kept s) counted (slots_of_kinds (kinds_kept s)) page) changes.was passes.1)

  module _ (t : Remembered) (said : BucketSaid counted s.entry s.bucket (b (1 + s.entry / 16)) (kinds_kept s) t.first) where
    -- it is one of the chain's
    pub page_renewed : t ≡ record s { first = t.first; places = t.places; spare = t.spare } → contains nat_eq s.pages number ≡ true → RowPagePasses (checks_of counted s) after → (header_in after).next ≡ (header_in before).next
        → KeysLead (over_slots number (slots_of_kinds (kinds_kept s)) (λ n. key_on (kinds_kept s) n after) (keys_in s.pages (kinds_kept s) a)) t.places
        → (contains nat_eq t.spare number ≡ false → AllUsed (kinds_kept s) after) → ((q : ℕ) → q ≢ number → contains nat_eq t.spare q ≡ contains nat_eq s.spare q) → IsRememberedBucket counted b t
    page_renewed same is passes next leads full others =
        subst (λ (x : Remembered). IsRememberedBucket counted b x) (sym same) (record {
          said = said;
          chain = old.chain;
          runs = runs_moved (RowPagePasses (checks_of counted s)) a b s.head old.chain s.rest each old.runs;
          few = old.few;
          long = old.long;
          there = old.there;
          leads = leads_same (over_slots number (slots_of_kinds (kinds_kept s)) (λ n. key_on (kinds_kept s) n (b number)) (keys_in s.pages (kinds_kept s) a)) (keys_in s.pages (kinds_kept s) b) t.places
              (page_changed s.pages (kinds_kept s) a b number is changes.others)
              (subst (λ page. KeysLead (over_slots number (slots_of_kinds (kinds_kept s)) (λ n. key_on (kinds_kept s) n page) (keys_in s.pages (kinds_kept s) a)) t.places) (sym changes.is) leads);
          spares = spares_changed s.pages s.spare t.spare (kinds_kept s) a b number after changes.is changes.others full others old.spares;
        })
      where
        at_page : (q : ℕ) → q ≡ number → RowPagePasses (checks_of counted s) (b q) × ((header_in (b q)).next ≡ (header_in (a q)).next)
        at_page q here =
            let now : b q ≡ after = ap (λ k. b k) here ∙ changes.is in
            let was : a q ≡ before = ap (λ k. a k) here ∙ changes.was in
            (subst (λ page. RowPagePasses (checks_of counted s) page) (sym now) passes, ap (λ page. (header_in page).next) now ∙ next ∙ sym (ap (λ page. (header_in page).next) was))

        each : (q : ℕ) → is_page_of q old.chain ≡ true → RowPagePasses (checks_of counted s) (a q) → RowPagePasses (checks_of counted s) (b q) × ((header_in (b q)).next ≡ (header_in (a q)).next)
        each q in_ passed =
            by_test (q == number) (λ yes. at_page q (eqb-true q number yes))
            (λ no.
            let stays = changes.others q (eqb-false q number no) in
            (subst (λ page. RowPagePasses (checks_of counted s) page) (sym stays) passed, ap (λ page. (header_in page).next) stays))

    -- it isn't
    pub page_apart : t ≡ record s { first = t.first } → contains nat_eq s.pages number ≡ false → IsRememberedBucket counted b t
    page_apart same isnt =
        subst (λ (x : Remembered). IsRememberedBucket counted b x) (sym same) (record {
          said = said;
          chain = old.chain;
          runs = runs_moved (RowPagePasses (checks_of counted s)) a b s.head old.chain s.rest each old.runs;
          few = old.few;
          long = old.long;
          there = old.there;
          leads = leads_same (keys_in s.pages (kinds_kept s) a) (keys_in s.pages (kinds_kept s) b) s.places (page_elsewhere s.pages (kinds_kept s) a b number isnt changes.others) old.leads;
          spares = spares_apart s.pages s.spare (kinds_kept s) a b number isnt changes.others old.spares;
        })
      where
        each : (q : ℕ) → is_page_of q old.chain ≡ true → RowPagePasses (checks_of counted s) (a q) → RowPagePasses (checks_of counted s) (b q) × ((header_in (b q)).next ≡ (header_in (a q)).next)
        each q in_ passed =
            let stays = changes.others q (λ here. absurd (let e = sym (ap (λ k. contains nat_eq s.pages k) here ∙ isnt) ∙ old.there q ∙ in_ in cc)) in
            (subst (λ page. RowPagePasses (checks_of counted s) page) (sym stays) passed, ap (λ page. (header_in page).next) stays)

-- all of the chain was read
knows_chain : (counted : ℕ) (pages : ℕ → List ℕ) (s : Remembered) → IsRememberedBucket counted pages s → s.head ≡ s.first → s.rest ≡ 0 → KnowsChain counted pages s.entry s.bucket
knows_chain counted pages s old whole end = record {
  kinds = kinds_kept s;
  first = s.first;
  chain = old.chain;
  said = old.said;
  runs = subst (λ p. RunsAlong (RowPagePasses (checks_of counted s)) pages p old.chain 0) whole (subst (λ q. RunsAlong (RowPagePasses (checks_of counted s)) pages s.head old.chain q) end old.runs);
  few = old.few;
}

-- and none of its pages may have a free slot
pub knows_full : (counted : ℕ) (pages : ℕ → List ℕ) (s : Remembered) → IsRememberedBucket counted pages s → s.head ≡ s.first → s.rest ≡ 0 → index_set_len s.spare ≡ 0 → KnowsFull counted pages s.entry s.bucket
unfolding knows_chain
knows_full counted pages s old whole end none = record {
  all = knows_chain counted pages s old whole end;
  full = λ p in_. old.spares p (old.there p ∙ in_) (none_is_in s.spare none p);
}

module _ (counted : ℕ) (pages : ℕ → List ℕ) (s : Remembered) (old : IsRememberedBucket counted pages s) (whole : s.head ≡ s.first) (end : s.rest ≡ 0) (key : ℤ) where
  tells : (found : Option Place) → found ≡ get int_eq s.places key → TellsKey (kinds_kept s) pages old.chain key found
  tells found is at in_ lt has = is ∙ (old.leads key at).1 (its_key s.pages (kinds_kept s) pages at.page at.slot (old.there at.page ∙ in_) lt ∙ has)

  told : (found : Option Place) → found ≡ get int_eq s.places key → IsPlaceTold (kinds_kept s) pages old.chain key found
  told None is = tt
  told (Some at) is =
      let has : keys_in s.pages (kinds_kept s) pages at.page at.slot ≡ Some key = (old.leads key at).0 (sym is) in
      by_test (contains nat_eq s.pages at.page)
      (λ in_. by_test (nat_lt at.slot (slots_of_kinds (kinds_kept s)))
      (λ low. (sym (old.there at.page) ∙ in_, ltb-true at.slot (slots_of_kinds (kinds_kept s)) low, sym (its_key s.pages (kinds_kept s) pages at.page at.slot in_ (ltb-true at.slot (slots_of_kinds (kinds_kept s)) low)) ∙ has))
      (λ high. absurd (let e : None ≡ Some key = sym (ap (λ b. cond b (key_on (kinds_kept s) at.slot (pages at.page)) None) (ap (λ b. b && nat_lt at.slot (slots_of_kinds (kinds_kept s))) in_ ∙ high)) ∙ has in cc)))
      (λ out. absurd (let e : None ≡ Some key = sym (no_key s.pages (kinds_kept s) pages at.page at.slot out) ∙ has in cc))

  pub knows : (found : Option Place) → found ≡ get int_eq s.places key → Knows counted pages s.entry s.bucket key found
  unfolding knows_chain
  knows found is = record { all = knows_chain counted pages s old whole end; tells = tells found is; told = told found is }
