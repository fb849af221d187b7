-- Where a search along a chain ends, a page at a time.
use Rattle.std.proofs.Common.{◌≡◌, ◌≢◌, inl, inr, ℕ, zero, suc, List, Option, None, Some, Result, Ok, Err, refl, sym, ap, subst}
use Rattle.ctr_store.specs.rec_BadRecord.{BadRecord}
use Rattle.ctr_record_effects.specs.page_BadChain.{BadChain}
use Rattle.ctr_record_effects.specs.page_BadChain.TheVariants.{OnPage, TooLong}
use Rattle.ctr_record_effects.specs.page_Place.{Place}
use Rattle.ctr_record_effects.specs.page_Reading.{header_in}
use Rattle.ctr_record_effects.specs.page_Walking.{most_in_chain}
use Rattle.std.specs.Prelude.{IfOk, IfSome}
use Rattle.ctr_disk.specs.declared.fault.StoreFault.{StoreFault}
use Rattle.ctr_record_effects.specs.page_Chain.{Chain}
use Rattle.ctr_record_effects.specs.page_Damage.{chain_entry}
use Rattle.ctr_record_effects.specs.area_Reading.{area_of}
use Rattle.ctr_record_effects.specs.area_Checked.{kinds_at}
use Rattle.ctr_walk.specs.Damage.{EndsTold}
use Rattle.ctr_walk.specs.Tables.{EndsByKinds, chain_sought, first_of_chain, EndsChain}
use Rattle.ctr_walk.specs.Along.{ChainSought, EndsPage, EndsAlong}

module _ (s : ChainSought) (pages : ℕ → List ℕ) where
  pub found_here : (left rest last p k : ℕ) → left ≡ suc rest → p ≢ 0 → EndsPage s (pages p) (Ok (Some k)) → EndsAlong s pages left last p (Ok (Some (record { page = p; slot = k })))
  found_here left rest last p k is some ends = subst (λ n. EndsAlong s pages n last p (Ok (Some (record { page = p; slot = k })))) (sym is) (inr (some, inl (k, ends, refl)))

  pub bad_here : (left rest last p : ℕ) (bad : BadRecord) → left ≡ suc rest → p ≢ 0 → EndsPage s (pages p) (Err bad) → EndsAlong s pages left last p (Err (OnPage p bad))
  bad_here left rest last p bad is some ends = subst (λ n. EndsAlong s pages n last p (Err (OnPage p bad))) (sym is) (inr (some, inr (inl (bad, ends, refl))))

  pub none_here : (left rest last p next : ℕ) (result : Result (Option Place) BadChain) → left ≡ suc rest → p ≢ 0 → EndsPage s (pages p) (Ok None) → next ≡ (header_in (pages p)).next
      → EndsAlong s pages rest p next result → EndsAlong s pages left last p result
  none_here left rest last p next result is some ends goes more =
      subst (λ n. EndsAlong s pages n last p result) (sym is) (inr (some, inr (inr (ends, subst (λ q. EndsAlong s pages rest p q result) goes more))))

  pub at_end : (left last p : ℕ) → p ≡ 0 → EndsAlong s pages left last p (Ok None)
  at_end zero last p none = inl (none, refl)
  at_end (suc n) last p none = inl (none, refl)

  pub too_long : (left last p most : ℕ) → left ≡ 0 → most ≡ most_in_chain s.counted → p ≢ 0 → EndsAlong s pages left last p (Err (TooLong last most))
  too_long left last p most is long some = subst (λ n. EndsAlong s pages n last p (Err (TooLong last most))) (sym is) (inr (some, ap (λ m. Err (TooLong last m)) long))

  -- what is found is found on its page
  pub found_there : (left last p : ℕ) (at : Place) → EndsAlong s pages left last p (Ok (Some at)) → s.ends (pages at.page) (Ok (Some at.slot))
  found_there zero last p at (inl end) = absurd (let f = end.1 in cc)
  found_there zero last p at (inr long) = absurd (let f = long.1 in cc)
  found_there (suc n) last p at (inl end) = absurd (let f = end.1 in cc)
  found_there (suc n) last p at (inr (some, inl (k, ends, is))) =
      let there : Place = record { page = p; slot = k } in
      let same : there ≡ at = cc is in
      subst (λ (q : Place). s.ends (pages q.page) (Ok (Some q.slot))) same (behind_header (pages p) k ends)
    where
      behind_header : (page : List ℕ) (k : ℕ) → EndsPage s page (Ok (Some k)) → s.ends page (Ok (Some k))
      behind_header page k (inl (bad, fails, is)) = absurd (let f = is in cc)
      behind_header page k (inr ends) = ends.1
  found_there (suc n) last p at (inr (some, inr (inl (bad, ends, is)))) = absurd cc
  found_there (suc n) last p at (inr (some, inr (inr (ends, rest)))) = found_there n p (header_in (pages p)).next at rest

-- and so is what the search of a chain tells
module _ (told : BadChain → StoreFault) (counted : ℕ) (pages : ℕ → List ℕ) (chain : Chain) (ends : EndsByKinds) (P : Place → Type 0)
    (holds : (at : Place) → ends (kinds_at (area_of pages) (chain_entry chain)) counted (pages at.page) (Ok (Some at.slot)) → P at) where
  pub told_there : (result : Result (Option Place) StoreFault) → EndsTold told (EndsChain counted pages chain ends) result → IfOk result (λ found. IfSome found P)
  told_there (Ok None) is = tt
  told_there (Ok (Some at)) (inl (bad, fails, is)) = absurd (let f = is in cc)
  told_there (Ok (Some at)) (inr along) = holds at (found_there (chain_sought pages counted chain ends) pages (most_in_chain counted) 0 (first_of_chain (area_of pages) chain) at along.1)
  told_there (Err e) is = tt
