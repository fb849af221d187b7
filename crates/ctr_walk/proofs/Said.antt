-- What an entry of the catalog says of a chain is what the area has.
use Rattle.std.proofs.Common.{◌≡◌, ◌≢◌, inl, inr, ℕ, zero, suc, ◌+◌, ◌*◌, ◌/◌, ◌%◌, ◌<◌, cond, List, [], ◌∷◌, map, slice_index, Option, None, Some, Result, Ok, Err, refl, sym, ◌∙◌, ap, subst, arith}
use Rattle.std.specs.Prelude.{IfOk}
use Rattle.std.proofs.lemmas.Bool.{lt-ltb, eq-eqb, ne_eqb}
use Rattle.ctr_disk.specs.declared.fault.StoreFault.{StoreFault}
use Rattle.ctr_types.specs.declared.value.Kind.{Kind}
use Rattle.ctr_store.specs.rec_BadRecord.{BadRecord}
use Rattle.ctr_record_effects.specs.page_Chain.{Chain}
use Rattle.ctr_record_effects.specs.page_Chain.TheVariants.{Rows, Versions}
use Rattle.ctr_record_effects.specs.page_BadChain.{BadChain}
use Rattle.ctr_record_effects.specs.page_BadChain.TheVariants.{OnPage}
use Rattle.ctr_record_effects.specs.page_Place.{Place}
use Rattle.ctr_record_effects.specs.page_Reading.{piece}
use Rattle.ctr_record_effects.specs.page_Columns.{entry_in, entry_at, columns_in, kinds_of, first_in, versions_first_in}
use Rattle.ctr_record_effects.specs.page_Damage.{chain_entry}
use Rattle.ctr_record_effects.specs.page_Walking.{most_in_chain}
use Rattle.ctr_record_effects.specs.area_Areas.{Firsts, no_pages}
use Rattle.ctr_record_effects.specs.area_Reading.{entry_bytes, firsts_of, bucket_numbers, area_of}
use Rattle.ctr_record_effects.specs.area_Checked.{kinds_at}
use Rattle.ctr_walk.specs.Damage.{EndsTold}
use Rattle.ctr_walk.specs.declared.table.ChainPages.{ChainPages}
use Rattle.ctr_walk.specs.Along.{ChainSought, EndsAlong}
use Rattle.ctr_walk.specs.Tables.{IsChain, kinds_said, first_among, first_at, entry_number, first_said, ChainSaid, EndsByKinds, chain_sought, first_of_chain, EndsChain}
use Rattle.ctr_walk.proofs.Ends.{at_end}

-- ---- on a page

-- the first page of a bucket
listed : (f : ℕ → ℕ) (b : ℕ) → b < 8 → slice_index (f 0 ∷ f 1 ∷ f 2 ∷ f 3 ∷ f 4 ∷ f 5 ∷ f 6 ∷ f 7 ∷ []) b ≡ f b
listed f zero lt = refl
listed f (suc zero) lt = refl
listed f (suc (suc zero)) lt = refl
listed f (suc (suc (suc zero))) lt = refl
listed f (suc (suc (suc (suc zero)))) lt = refl
listed f (suc (suc (suc (suc (suc zero))))) lt = refl
listed f (suc (suc (suc (suc (suc (suc zero)))))) lt = refl
listed f (suc (suc (suc (suc (suc (suc (suc zero))))))) lt = refl
listed f (suc (suc (suc (suc (suc (suc (suc (suc n)))))))) lt = absurd (omega (arith, lt))

abbrev there : List ℕ → Firsts
there bytes = record { buckets = map (λ b. first_in b bytes) bucket_numbers; versions = versions_first_in bytes }

pub first_used : (chain : Chain) (page : List ℕ) → IsChain chain → (entry_at (entry_number chain) page).state ≢ 0 → first_said chain page ≡ first_at chain (entry_at (entry_number chain) page).bytes
first_used (Rows e bucket) page is some =
    ap (λ b. slice_index (cond b no_pages (there (entry_at (e % 16) page).bytes)).buckets bucket) (ne_eqb (entry_at (e % 16) page).state 0 some) ∙ listed (λ b. first_in b (entry_at (e % 16) page).bytes) bucket is.1
first_used (Versions e) page is some = ap (λ b. (cond b no_pages (there (entry_at (e % 16) page).bytes)).versions) (ne_eqb (entry_at (e % 16) page).state 0 some)

pub first_free : (chain : Chain) (page : List ℕ) → (entry_at (entry_number chain) page).state ≡ 0 → first_said chain page ≡ 0
first_free (Rows e bucket) page none = ap (λ b. slice_index (cond b no_pages (there (entry_at (e % 16) page).bytes)).buckets bucket) (eq-eqb (entry_at (e % 16) page).state 0 none)
first_free (Versions e) page none = ap (λ b. (cond b no_pages (there (entry_at (e % 16) page).bytes)).versions) (eq-eqb (entry_at (e % 16) page).state 0 none)

-- ---- in the area

-- the bytes of an entry of the catalog stand on its page
pub bytes_of_entry : (pages : ℕ → List ℕ) (e : ℕ) → e < 32 → entry_bytes pages e ≡ (entry_at (e % 16) (pages (1 + e / 16))).bytes
bytes_of_entry pages e few = ap (λ b. cond b (piece (256 * (e % 16)) 256 (pages (1 + e / 16))) []) (lt-ltb e 32 few)

pub entry_few : (chain : Chain) → IsChain chain → chain_entry chain < 32
entry_few (Rows e bucket) is = is.0
entry_few (Versions e) is = is

-- the first page of a chain is the one that the table's entry says
pub first_here : (pages : ℕ → List ℕ) (chain : Chain) → IsChain chain → first_of_chain (area_of pages) chain ≡ first_said chain (pages (1 + chain_entry chain / 16))
first_here pages chain is = ap (λ l. first_among (firsts_of (entry_in l)) chain) (bytes_of_entry pages (chain_entry chain) (entry_few chain is))

if_ok : {T E : Type 0} (result : Result T E) (P Q : T → Type 0) → ((x : T) → P x → Q x) → IfOk result P → IfOk result Q
if_ok (Ok x) P Q f p = f x p
if_ok (Err e) P Q f p = tt

module _ (counted : ℕ) (pages : ℕ → List ℕ) (chain : Chain) (ends : EndsByKinds) where
  abbrev e : ℕ
  e = chain_entry chain

  abbrev page : List ℕ
  page = pages (1 + e / 16)

  module _ (is : IsChain chain) where
    kinds_here : kinds_at (area_of pages) e ≡ kinds_of (columns_in (entry_at (e % 16) page).bytes)
    kinds_here = ap (λ l. kinds_of (columns_in l)) (bytes_of_entry pages e (entry_few chain is))

    pub bad_entry : (bad : BadRecord) → ChainSaid counted chain page (Err bad) → EndsChain counted pages chain ends (Err (OnPage (1 + e / 16) bad))
    bad_entry bad said = inl (bad, said, refl)

    pub no_page : ChainSaid counted chain page (Ok None) → EndsChain counted pages chain ends (Ok None)
    no_page said = inr (said.0, at_end (chain_sought pages counted chain ends) pages (most_in_chain counted) 0 (first_of_chain (area_of pages) chain) (first_here pages chain is ∙ said.1))

    abbrev by_kinds : List Kind → ChainSought
    by_kinds kinds = record { chain = chain; counted = counted; ends = ends kinds counted }

    pub pages_end : {E : Type 0} (found : ChainPages) (result : Result (Result (Option Place) BadChain) E) → ChainSaid counted chain page (Ok (Some found))
        → IfOk result (EndsAlong (by_kinds (kinds_said found.table)) pages (most_in_chain counted) 0 found.first) → IfOk result (EndsChain counted pages chain ends)
    pages_end found result said along = if_ok result (EndsAlong (by_kinds (kinds_said found.table)) pages (most_in_chain counted) 0 found.first) (EndsChain counted pages chain ends)
        (λ r a. inr (
          said.0,
          subst (λ p. EndsAlong (chain_sought pages counted chain ends) pages (most_in_chain counted) 0 p r) (sym said.1 ∙ sym (first_here pages chain is))
              (subst (λ ks. EndsAlong (by_kinds ks) pages (most_in_chain counted) 0 found.first r) (said.2 ∙ sym kinds_here) a),
        )) along

  -- what a search finds that ends without damage
  pub told_finds : (told : BadChain → StoreFault) (Finds : Option Place → Type 0) (result : Result (Option Place) StoreFault)
      → ((o : Option Place) → EndsAlong (chain_sought pages counted chain ends) pages (most_in_chain counted) 0 (first_of_chain (area_of pages) chain) (Ok o) → Finds o)
      → EndsTold told (EndsChain counted pages chain ends) result → IfOk result Finds
  told_finds told Finds (Ok o) finds (inl (bad, fails, is)) = absurd (let f = is in cc)
  told_finds told Finds (Ok o) finds (inr (passes, along)) = finds o along
  told_finds told Finds (Err bad) finds ended = tt
