-- A search along a chain of pages: each page is checked as it is read, and the search ends at the
-- first place that is sought, or at the first damage.
use Rattle.std.specs.Prelude.{◌≡◌, ◌≢◌, ◌⊎◌, ℕ, zero, suc, List, Option, None, Some, Result, Ok, Err}
use Rattle.ctr_store.specs.rec_BadRecord.{BadRecord}
use Rattle.ctr_record_effects.specs.page_Chain.{Chain}
use Rattle.ctr_record_effects.specs.page_BadChain.{BadChain}
use Rattle.ctr_record_effects.specs.page_BadChain.TheVariants.{OnPage, TooLong}
use Rattle.ctr_record_effects.specs.page_Place.{Place}
use Rattle.ctr_record_effects.specs.page_Reading.{header_in}
use Rattle.ctr_record_effects.specs.page_Damage.{header_check}
use Rattle.ctr_record_effects.specs.page_Walking.{most_in_chain}

-- In which chain a place is sought, where so many pages are counted, and where the search of a page
-- ends whose header passes.
pub record ChainSought : Type 1 where
  pub chain : Chain
  pub counted : ℕ
  pub ends : List ℕ → Result (Option ℕ) BadRecord → Type 0

-- Where the search of a page ends: at the damage of its header; or this passes, and it ends behind
-- it.
abbrev pub EndsPage : ChainSought → List ℕ → Result (Option ℕ) BadRecord → Type 0
EndsPage s page result =
    ((bad : BadRecord) × (header_check s.chain s.counted page ≡ Err bad) × (result ≡ Err bad))
    ⊎ ((header_check s.chain s.counted page ≡ Ok tt) × s.ends page result)

-- a page was looked at: where its search ends, and the next page of the chain
abbrev pub LooksAt : ChainSought → List ℕ → Result (Option ℕ × ℕ) BadRecord → Type 0
LooksAt s page (Ok x) = EndsPage s page (Ok x.0) × (x.1 ≡ (header_in page).next)
LooksAt s page (Err bad) = EndsPage s page (Err bad)

-- Where the search along a chain ends, from a page on behind another, of which so many may be left:
-- at the place that is found on a page; at the damage of one; behind a page on which none is, where
-- the rest ends. A page too many is damage of the last one that was read.
abbrev pub EndsAlong : ChainSought → (ℕ → List ℕ) → ℕ → ℕ → ℕ
    → Result (Option Place) BadChain → Type 0
EndsAlong s pages zero last p result =
    ((p ≡ 0) × (result ≡ Ok None))
    ⊎ ((p ≢ 0) × (result ≡ Err (TooLong last (most_in_chain s.counted))))
EndsAlong s pages (suc n) last p result =
    ((p ≡ 0) × (result ≡ Ok None))
    ⊎ ((p ≢ 0) × (((k : ℕ) × EndsPage s (pages p) (Ok (Some k))
    × (result ≡ Ok (Some (record { page = p; slot = k }))))
    ⊎ (((bad : BadRecord) × EndsPage s (pages p) (Err bad) × (result ≡ Err (OnPage p bad)))
    ⊎ (EndsPage s (pages p) (Ok None) × EndsAlong s pages n p (header_in (pages p)).next result))))
