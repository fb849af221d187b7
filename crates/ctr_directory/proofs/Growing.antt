-- What passes its checks passes them where more pages are counted, so what is remembered is exact still.
use Rattle.std.proofs.Common.{◌≡◌, ⊎_elim, ℕ, zero, suc, ◌+◌, ◌-◌, ◌*◌, ◌≤◌, ◌==◌, Bool, true, false, cond, List, [], ◌∷◌, Result, Ok, Err, refl, sym, ◌∙◌, ap, subst, arith}
use Rattle.std.specs.Prelude.{⊤, ◌/◌, ◌%◌}
use Rattle.std.proofs.lemmas.Bool.{cases_lt, le-ltb, lt-ltb}
use Rattle.ctr_rec.specs.bytes_Fields.{field}
use Rattle.ctr_rec.specs.bytes_Following.{◌>>=◌}
use Rattle.ctr_rec.specs.types_Kind.{Kind}
use Rattle.ctr_rec.specs.Damage.{wrong, expect, at_most}
use Rattle.ctr_rec.specs.declared.decoding.BadRecord.{BadRecord}
use Rattle.ctr_page.specs.declared.checks.Chain.{Chain}
use Rattle.ctr_page.specs.declared.table.TheConstants.{FIRSTS_AT}
use Rattle.ctr_page.specs.Damage.{chain_kind, chain_entry, chain_bucket, counted_check, header_check, place_check, pointer_check, used_slot_check, slot_check, firsts_check, used_entry_check, entry_check}
use Rattle.ctr_page.specs.Places.{pointer_at, kept_size, room_for}
use Rattle.ctr_page.specs.Columns.{kinds_width, slot_start}
use Rattle.ctr_page.specs.Reading.{header_in}
use Rattle.ctr_directory.specs.declared.directory.Directory.{Directory}
use Rattle.ctr_directory.specs.declared.remembered.Remembered.{Remembered}
use Rattle.ctr_directory.specs.Chains.{RowPagePasses, RunsAlong, kinds_kept, checks_of, IsRememberedBucket}
use Rattle.ctr_directory.specs.Exact.{IsExact}

-- a check that passes
abbrev Passes : Result ⊤ BadRecord → Type 0
Passes r = r ≡ Ok tt

-- two checks, one after the other, each of which passes still
both_pass : (r s u v : Result ⊤ BadRecord) → (Passes r → Passes u) → (Passes s → Passes v) → Passes (r >>= λ _. s) → Passes (u >>= λ _. v)
both_pass (Ok t) s u v first second is = subst (λ a. Passes (a >>= λ _. v)) (sym (first refl)) (second is)
both_pass (Err e) s u v first second is = absurd (let f : Err e ≡ Ok tt = is in cc)

-- a check where a test holds, and one where it doesn't
either_pass : (b : Bool) (r s u : Result ⊤ BadRecord) → (Passes r → Passes u) → Passes (cond b r s) → Passes (cond b u s)
either_pass true r s u more is = more is
either_pass false r s u more is = is

bound_more : (at a b n : ℕ) → a ≤ b → Passes (at_most at a n) → Passes (at_most at b n)
unfolding at_most
bound_more at a b n le passes = ⊎_elim
    (λ lt. absurd (let f : Err (wrong at a n) ≡ Ok tt = sym (ap (λ c. cond c (Err (wrong at a n)) (Ok tt)) (lt-ltb a n lt)) ∙ passes in cc))
    (λ ge. ap (λ c. cond c (Err (wrong at b n)) (Ok tt)) (le-ltb b n (further n a b ge le)))
    (cases_lt a n)
  where
    further : (n a b : ℕ) → n ≤ a → a ≤ b → n ≤ b
    further n a b x y = omega (arith, x, y)

module _ (counted more : ℕ) (le : counted ≤ more) where
  less_one : counted - 1 ≤ more - 1
  less_one = omega (arith, le)

  counted_more : (at : ℕ) (page : List ℕ) → Passes (counted_check counted at page) → Passes (counted_check more at page)
  unfolding counted_check
  counted_more at page = bound_more at (counted - 1) (more - 1) (field 4 at page) less_one

  pub header_more : (chain : Chain) (page : List ℕ) → Passes (header_check chain counted page) → Passes (header_check chain more page)
  unfolding header_check
  header_more chain page =
      both_pass (expect 0 (chain_kind chain) (field 1 0 page)) _ (expect 0 (chain_kind chain) (field 1 0 page)) _ (λ is. is)
      (both_pass (expect 1 (chain_entry chain) (field 1 1 page)) _ (expect 1 (chain_entry chain) (field 1 1 page)) _ (λ is. is)
      (both_pass (expect 2 (chain_bucket chain) (field 1 2 page)) (counted_check counted 4 page) (expect 2 (chain_bucket chain) (field 1 2 page)) (counted_check more 4 page) (λ is. is)
      (counted_more 4 page)))

  pointer_more : (w at : ℕ) (page : List ℕ) → Passes (pointer_check counted w at page) → Passes (pointer_check more w at page)
  unfolding pointer_check place_check
  pointer_more w at page is = by (field 4 at page == 0) is
    where
      by : (b : Bool) → Passes (cond b (Ok tt) (place_check counted w at page)) → Passes (cond b (Ok tt) (place_check more w at page))
      by true is = is
      by false is = both_pass (counted_check counted at page) (at_most (at + 4) (room_for (kept_size w) - 1) (field 2 (at + 4) page)) (counted_check more at page) (at_most (at + 4) (room_for (kept_size w) - 1) (field 2 (at + 4) page))
          (counted_more at page) (λ is. is) is

  pub slot_more : (kinds : List Kind) (start : ℕ) (page : List ℕ) → Passes (slot_check kinds counted start page) → Passes (slot_check kinds more start page)
  unfolding slot_check used_slot_check
  slot_more kinds start page = either_pass (field 1 start page == 1) (used_slot_check kinds counted start page) (at_most start 1 (field 1 start page)) (used_slot_check kinds more start page)
      (both_pass (pointer_check counted (kinds_width kinds) (start + pointer_at (kinds_width kinds)) page) _ (pointer_check more (kinds_width kinds) (start + pointer_at (kinds_width kinds)) page) _
      (pointer_more (kinds_width kinds) (start + pointer_at (kinds_width kinds)) page) (λ is. is))

  firsts_more : (n at : ℕ) (page : List ℕ) → Passes (firsts_check n counted at page) → Passes (firsts_check n more at page)
  firsts_more zero at page is = is
  firsts_more (suc n) at page is = both_pass (counted_check counted at page) (firsts_check n counted (at + 4) page) (counted_check more at page) (firsts_check n more (at + 4) page)
      (counted_more at page) (firsts_more n (at + 4) page) is

  pub entry_more : (start : ℕ) (page : List ℕ) → Passes (entry_check counted start page) → Passes (entry_check more start page)
  unfolding entry_check used_entry_check
  entry_more start page is = by (field 1 start page == 0) is
    where
      by : (b : Bool) → Passes (cond b (Ok tt) (used_entry_check counted start page)) → Passes (cond b (Ok tt) (used_entry_check more start page))
      by true is = is
      by false is = both_pass (firsts_check 9 counted (start + FIRSTS_AT) page) _ (firsts_check 9 more (start + FIRSTS_AT) page) _ (firsts_more 9 (start + FIRSTS_AT) page) (λ is. is) is

  -- a page of a chain, and the chain
  page_more : (b : Remembered) (page : List ℕ) → RowPagePasses (checks_of counted b) page → RowPagePasses (checks_of more b) page
  page_more b page passes = (header_more (checks_of counted b).chain page passes.0, λ n lt. slot_more (kinds_kept b) (slot_start (kinds_kept b) n) page (passes.1 n lt))

  runs_more : (b : Remembered) (pages : ℕ → List ℕ) (p : ℕ) (ps : List ℕ) (end : ℕ) → RunsAlong (RowPagePasses (checks_of counted b)) pages p ps end → RunsAlong (RowPagePasses (checks_of more b)) pages p ps end
  runs_more b pages p [] end runs = runs
  runs_more b pages p (q ∷ qs) end runs = (runs.0, runs.1, page_more b (pages p) runs.2, runs_more b pages (header_in (pages p)).next qs end runs.3)

  bucket_more : (pages : ℕ → List ℕ) (b : Remembered) → IsRememberedBucket counted pages b → IsRememberedBucket more pages b
  bucket_more pages b old = record {
    said = record { checked = entry_more (256 * (b.entry % 16)) (pages (1 + b.entry / 16)) old.said.checked; used = old.said.used; kinds_are = old.said.kinds_are; first_is = old.said.first_is };
    chain = old.chain;
    runs = runs_more b pages b.head old.chain b.rest old.runs;
    few = omega (arith, le, old.few);
    long = old.long;
    there = old.there;
    leads = old.leads;
    spares = old.spares;
  }

  pub exact_more : (pages : ℕ → List ℕ) (d : Directory) → IsExact counted pages d → IsExact more pages d
  exact_more pages d exact k other lt known = bucket_more pages _ (exact k other lt known)
