-- Pages that a chain leads to, and that there may be.
use Rattle.std.proofs.Common.{◌≡◌, ℕ, ◌+◌, ◌-◌, ◌/◌, ◌<◌, ◌≤◌, List, Result, Ok, arith}
use Rattle.std.specs.Prelude.{⊤}
use Rattle.std.proofs.lemmas.Bool.{ltb-false}
use Rattle.ctr_bytes.specs.Fields.{field}
use Rattle.ctr_bytes.specs.Following.{◌>>=◌}
use Rattle.ctr_store.specs.rec_Damage.{wrong, expect, at_most}
use Rattle.ctr_store.proofs.rec_Reading.{bind_ok, guard_ok}
use Rattle.ctr_record_effects.specs.ctr_redo.States.{page_limit}
use Rattle.ctr_record_effects.specs.page_Chain.{Chain}
use Rattle.ctr_record_effects.specs.page_Reading.{header_in}
use Rattle.ctr_record_effects.specs.page_Damage.{chain_kind, chain_entry, chain_bucket, counted_check, header_check}

-- the next page of one whose header passes is counted
pub next_counted : (chain : Chain) (counted : ℕ) (page : List ℕ) → header_check chain counted page ≡ Ok tt → 0 < counted → (header_in page).next < counted
unfolding header_check counted_check at_most
next_counted chain counted page passes some =
    let f3 : ⊤ → Result ⊤ _ = λ z. counted_check counted 4 page in
    let f2 : ⊤ → Result ⊤ _ = λ z. expect 2 (chain_bucket chain) (field 1 2 page) >>= f3 in
    let f1 : ⊤ → Result ⊤ _ = λ z. expect 1 (chain_entry chain) (field 1 1 page) >>= f2 in
    let kind = bind_ok (expect 0 (chain_kind chain) (field 1 0 page)) f1 tt passes in
    let entry = bind_ok (expect 1 (chain_entry chain) (field 1 1 page)) f2 tt kind.2 in
    let bucket = bind_ok (expect 2 (chain_bucket chain) (field 1 2 page)) f3 tt entry.2 in
    let last = guard_ok _ (wrong 4 (counted - 1) (field 4 4 page)) (Ok tt) tt bucket.2 in
    below (field 4 4 page) counted (ltb-false (counted - 1) (field 4 4 page) last.0) some
  where
    below : (n c : ℕ) → n ≤ c - 1 → 0 < c → n < c
    below n c le some = omega (arith, le, some)

-- a page that may be counted
pub in_limit : (p : ℕ) → p < 30000 → p < page_limit
unfolding page_limit
in_limit p small = small

-- a counted page is one
pub below_limit : (p counted : ℕ) → p < counted → counted ≤ 30000 → p < page_limit
unfolding page_limit
below_limit p counted lt few = omega (arith, lt, few)

-- and a page of the catalog
pub catalog_in_limit : (e : ℕ) → e < 32 → 1 + e / 16 < page_limit
unfolding page_limit
catalog_in_limit e few = omega (arith, few)
