-- What passes its checks passes them where more pages are counted.
use Rattle.std.proofs.Common.{◌≡◌, ⊎_elim, ℕ, zero, suc, ◌+◌, ◌-◌, ◌*◌, ◌≤◌, ◌==◌, Bool, true, false, cond, List, [], ◌∷◌, Result, Ok, Err, refl, sym, ◌∙◌, ap, subst, arith}
use Rattle.std.specs.Prelude.{⊤, ◌/◌, ◌%◌}
use Rattle.std.specs.List.{AllByRecursion}
use Rattle.std.proofs.lemmas.Bool.{cases_lt, le-ltb, lt-ltb}
use Rattle.ctr_types.specs.declared.value.Kind.{Kind}
use Rattle.ctr_bytes.specs.Fields.{field}
use Rattle.ctr_bytes.specs.Following.{◌>>=◌}
use Rattle.ctr_actions.specs.rec_Damage.{wrong, expect, at_most}
use Rattle.ctr_actions.specs.rec_BadRecord.{BadRecord}
use Rattle.ctr_actions.specs.page_Chain.{Chain}
use Rattle.ctr_actions.specs.page_Chain.TheVariants.{Rows, Versions}
use Rattle.ctr_actions.specs.page_Place.{Place}
use Rattle.ctr_actions.specs.page_Damage.{chain_kind, chain_entry, chain_bucket, counted_check, header_check, place_check, pointer_check, used_slot_check, used_kept_check, slot_check, kept_check, firsts_check, used_entry_check, entry_check}
use Rattle.ctr_actions.specs.page_table_TheConstants.{ENTRY_SIZE, FIRSTS_AT}
use Rattle.ctr_actions.specs.page_Places.{pointer_at, kept_pointer_at, kept_size, room_for}
use Rattle.ctr_actions.specs.page_Columns.{kinds_width, slot_start, kept_start}
use Rattle.ctr_actions.specs.area_Chains.{pages_bound, pages_from, slot_places, older_places}
use Rattle.ctr_actions.specs.area_Checked.{kinds_at, Passes, ArePassed, BucketsPass, ChainPasses, SlotPasses, OlderPasses}
use Rattle.ctr_actions.specs.area_Reading.{area_of}

-- two checks, one after the other, each of which passes still
both_pass : (r s u v : Result ⊤ BadRecord) → (Passes r → Passes u) → (Passes s → Passes v) → Passes (r >>= λ _. s) → Passes (u >>= λ _. v)
both_pass (Ok t) s u v first second is = subst (λ a. Passes (a >>= λ _. v)) (sym (first refl)) (second is)
both_pass (Err e) s u v first second is = absurd (let f : Err e ≡ Ok tt = is in cc)

-- a check where a test holds, and one where it doesn't
either_pass : (b : Bool) (r s u : Result ⊤ BadRecord) → (Passes r → Passes u) → Passes (cond b r s) → Passes (cond b u s)
either_pass true r s u more is = more is
either_pass false r s u more is = is

bound_more : (at a b n : ℕ) → a ≤ b → Passes (at_most at a n) → Passes (at_most at b n)
unfolding at_most
bound_more at a b n le passes = ⊎_elim
    (λ lt. absurd (let f : Err (wrong at a n) ≡ Ok tt = sym (ap (λ c. cond c (Err (wrong at a n)) (Ok tt)) (lt-ltb a n lt)) ∙ passes in cc))
    (λ ge. ap (λ c. cond c (Err (wrong at b n)) (Ok tt)) (le-ltb b n (further n a b ge le)))
    (cases_lt a n)
  where
    further : (n a b : ℕ) → n ≤ a → a ≤ b → n ≤ b
    further n a b x y = omega (arith, x, y)

module _ (counted more : ℕ) (le : counted ≤ more) where
  less_one : counted - 1 ≤ more - 1
  less_one = omega (arith, le)

  counted_more : (at : ℕ) (page : List ℕ) → Passes (counted_check counted at page) → Passes (counted_check more at page)
  unfolding counted_check
  counted_more at page = bound_more at (counted - 1) (more - 1) (field 4 at page) less_one

  pub header_more : (chain : Chain) (page : List ℕ) → Passes (header_check chain counted page) → Passes (header_check chain more page)
  unfolding header_check
  header_more chain page =
      both_pass (expect 0 (chain_kind chain) (field 1 0 page)) _ (expect 0 (chain_kind chain) (field 1 0 page)) _ (λ is. is)
      (both_pass (expect 1 (chain_entry chain) (field 1 1 page)) _ (expect 1 (chain_entry chain) (field 1 1 page)) _ (λ is. is)
      (both_pass (expect 2 (chain_bucket chain) (field 1 2 page)) (counted_check counted 4 page) (expect 2 (chain_bucket chain) (field 1 2 page)) (counted_check more 4 page) (λ is. is)
      (counted_more 4 page)))

  pointer_more : (w at : ℕ) (page : List ℕ) → Passes (pointer_check counted w at page) → Passes (pointer_check more w at page)
  unfolding pointer_check place_check
  pointer_more w at page is = by (field 4 at page == 0) is
    where
      by : (b : Bool) → Passes (cond b (Ok tt) (place_check counted w at page)) → Passes (cond b (Ok tt) (place_check more w at page))
      by true is = is
      by false is = both_pass (counted_check counted at page) (at_most (at + 4) (room_for (kept_size w) - 1) (field 2 (at + 4) page)) (counted_check more at page) (at_most (at + 4) (room_for (kept_size w) - 1) (field 2 (at + 4) page))
          (counted_more at page) (λ is. is) is

  pub slot_more : (kinds : List Kind) (start : ℕ) (page : List ℕ) → Passes (slot_check kinds counted start page) → Passes (slot_check kinds more start page)
  unfolding slot_check used_slot_check
  slot_more kinds start page = either_pass (field 1 start page == 1) (used_slot_check kinds counted start page) (at_most start 1 (field 1 start page)) (used_slot_check kinds more start page)
      (both_pass (pointer_check counted (kinds_width kinds) (start + pointer_at (kinds_width kinds)) page) _ (pointer_check more (kinds_width kinds) (start + pointer_at (kinds_width kinds)) page) _
      (pointer_more (kinds_width kinds) (start + pointer_at (kinds_width kinds)) page) (λ is. is))

  pub kept_more : (kinds : List Kind) (start : ℕ) (page : List ℕ) → Passes (kept_check kinds counted start page) → Passes (kept_check kinds more start page)
  unfolding kept_check used_kept_check
  kept_more kinds start page = either_pass (field 1 start page == 1) (used_kept_check kinds counted start page) (at_most start 1 (field 1 start page)) (used_kept_check kinds more start page)
      (both_pass (pointer_check counted (kinds_width kinds) (start + kept_pointer_at (kinds_width kinds)) page) _ (pointer_check more (kinds_width kinds) (start + kept_pointer_at (kinds_width kinds)) page) _
      (pointer_more (kinds_width kinds) (start + kept_pointer_at (kinds_width kinds)) page) (λ is. is))

  firsts_more : (n at : ℕ) (page : List ℕ) → Passes (firsts_check n counted at page) → Passes (firsts_check n more at page)
  firsts_more zero at page is = is
  firsts_more (suc n) at page is = both_pass (counted_check counted at page) (firsts_check n counted (at + 4) page) (counted_check more at page) (firsts_check n more (at + 4) page)
      (counted_more at page) (firsts_more n (at + 4) page) is

  pub entry_more : (start : ℕ) (page : List ℕ) → Passes (entry_check counted start page) → Passes (entry_check more start page)
  unfolding entry_check used_entry_check
  entry_more start page is = by (field 1 start page == 0) is
    where
      by : (b : Bool) → Passes (cond b (Ok tt) (used_entry_check counted start page)) → Passes (cond b (Ok tt) (used_entry_check more start page))
      by true is = is
      by false is = both_pass (firsts_check 9 counted (start + FIRSTS_AT) page) _ (firsts_check 9 more (start + FIRSTS_AT) page) _ (firsts_more 9 (start + FIRSTS_AT) page) (λ is. is) is

  module _ (pages : ℕ → List ℕ) where
    chain_more : (chain : Chain) (p : ℕ) → ChainPasses counted pages chain p → ChainPasses more pages chain p
    chain_more chain p = each (pages_from pages_bound (area_of pages).header p)
      where
        each : (qs : List ℕ) → AllByRecursion (λ q. Passes (header_check chain counted (pages q))) qs → AllByRecursion (λ q. Passes (header_check chain more (pages q))) qs
        each [] all = tt
        each (q ∷ qs) all = (header_more chain (pages q) all.0, each qs all.1)

    buckets_more : (e b : ℕ) (ps : List ℕ) → BucketsPass counted pages e b ps → BucketsPass more pages e b ps
    buckets_more e b [] all = tt
    buckets_more e b (p ∷ ps) all = (chain_more (Rows e b) p all.0, buckets_more e (b + 1) ps all.1)

    pub pages_more : ArePassed counted pages → ArePassed more pages
    pages_more passed = record {
      entries = λ e lt. entry_more (ENTRY_SIZE * (e % 16)) (pages (1 + e / 16)) (passed.entries e lt);
      rows = λ e. buckets_more e 0 ((area_of pages).firsts e).buckets (passed.rows e);
      versions = λ e. chain_more (Versions e) ((area_of pages).firsts e).versions (passed.versions e);
      slots = λ e. slots_all e (slot_places (area_of pages) e) (passed.slots e);
      older = λ e. older_all e (older_places (area_of pages) e) (passed.older e);
    }
      where
        kinds : ℕ → List Kind
        kinds e = kinds_at (area_of pages) e

        slots_all : (e : ℕ) (ps : List Place) → AllByRecursion (SlotPasses counted pages e) ps → AllByRecursion (SlotPasses more pages e) ps
        slots_all e [] all = tt
        slots_all e (at ∷ ps) all = (slot_more (kinds e) (slot_start (kinds e) at.slot) (pages at.page) all.0, slots_all e ps all.1)

        older_all : (e : ℕ) (ps : List Place) → AllByRecursion (OlderPasses counted pages e) ps → AllByRecursion (OlderPasses more pages e) ps
        older_all e [] all = tt
        older_all e (at ∷ ps) all = (kept_more (kinds e) (kept_start (kinds e) at.slot) (pages at.page) all.0, older_all e ps all.1)
