-- The first page of a chain that is to leave it: it passes, it is behind the catalog, and its entry isn't free.
use Rattle.std.proofs.Common.{◌≡◌, ◌≢◌, inl, inr, ℕ, ◌≤◌, ◌<◌, cond, List, length, map, Result, Ok, Err, refl, sym, ◌∙◌, ap, subst, arith}
use Rattle.std.specs.Prelude.{IsTrue, ⊤}
use Rattle.std.proofs.lemmas.Bool.{eq-eqb}
use Rattle.ctr_disk.specs.declared.disk.Disk.{Ghosts}
use Rattle.ctr_disk.specs.Image.{Image}
use Rattle.ctr_disk.specs.declared.fault.StoreFault.{StoreFault}
use Rattle.ctr_disk.specs.declared.fault.StoreFault.TheVariants.{Fault, Damaged}
use Rattle.ctr_page.specs.declared.checks.Chain.{Chain}
use Rattle.ctr_page.specs.declared.checks.Chain.TheVariants.{Rows, Versions}
use Rattle.ctr_page.specs.declared.header.Header.{Header}
use Rattle.ctr_page.specs.declared.walk.BadChain.{BadChain}
use Rattle.ctr_page.specs.declared.walk.BadChain.TheVariants.{OnPage, TooLong}
use Rattle.ctr_page.specs.Damage.{header_check, chain_entry}
use Rattle.ctr_page.specs.Reading.{header_in}
use Rattle.ctr_page.specs.Columns.{first_in, versions_first_in}
use Rattle.ctr_area.specs.Areas.{Firsts, Area, no_pages}
use Rattle.ctr_area.specs.Reading.{entry_bytes, bucket_numbers}
use Rattle.ctr_area.specs.Chains.{pages_bound, pages_from}
use Rattle.ctr_area.specs.Sound.{IsAmong}
use Rattle.ctr_walk.specs.base_Base.{IsSoundImage}
use Rattle.ctr_walk.specs.redo_States.{State}
use Rattle.ctr_walk.specs.store_Store.{View}
use Rattle.ctr_walk.specs.OneRecord.{LogsOne}
use Rattle.ctr_walk.specs.Damage.{EndsOnPage, EndsTold}
use Rattle.ctr_record_laws.proofs.Bounds.{pages_bounded}
use Rattle.ctr_record_laws.proofs.Ends.{steps, page_goes_on}
use Rattle.ctr_record_laws.specs.Owed.{OwedByUnlink, OwedByOlderUnlink}
use Rattle.ctr_record_effects.specs.States.{pages_in, area_in}
use Rattle.ctr_record_effects.specs.Standing.{IsDatabaseState}
use Rattle.ctr_pvs.proofs.passed_Pagewise.{page_by_page}
use Rattle.ctr_trim.proofs.undamaged_Inside.{on_bucket, on_versions}
use Rattle.ctr_dead.specs.Unlinking.{leaving_record, OwedByLeaving, NextPageSaid, LeavesItsChain}

-- a chain that begins at a page has it
begins_with : (header : ℕ → Header) (p : ℕ) → (p ≡ 0 → ⊥) → IsAmong p (pages_from pages_bound header p)
begins_with header p some = subst (IsAmong p) (sym (ap (λ m. pages_from m header p) steps.1 ∙ page_goes_on header steps.0 p some)) (inl refl)

not_zero : (p : ℕ) → 0 < p → p ≡ 0 → ⊥
not_zero p some none = omega (arith, some, none)

-- what a first page is, that is to leave
pub record IsFirstToLeave (s : State) (p : ℕ) (chain : Chain) : Type 0 where
  pub passes : header_check chain s.counted (pages_in s p) ≡ Ok tt
  pub behind : 3 ≤ p
  pub used : ((area_in s).title (chain_entry chain)).state ≢ 0

-- the chains of an entry, by its bytes, where it isn't free
abbrev its_chains : State → ℕ → Firsts
its_chains s e = record { buckets = map (λ k. first_in k (entry_bytes (pages_in s) e)) bucket_numbers; versions = versions_first_in (entry_bytes (pages_in s) e) }

module _ (s : State) (database : IsDatabaseState s) where
  abbrev area : Area
  area = area_in s

  rows : (p e b : ℕ) → OwedByUnlink s.tables area p e b → IsFirstToLeave s p (Rows e b)
  rows p e b owed =
      let in_ = subst (λ f. IsAmong p (pages_from pages_bound area.header f)) (sym owed.first) (begins_with area.header p (not_zero p owed.some)) in
      record {
        passes = ((page_by_page s.counted (pages_in s) database.passed).rows e b p owed.there in_).header;
        behind = (on_bucket s.counted s.tables area (pages_bounded (pages_in s)) database.sound e b p owed.there in_).0;
        used = λ none. absurd (no_bucket (subst (λ c. b < length (cond c no_pages (its_chains s e)).buckets) (eq-eqb (area.title e).state 0 none) owed.there));
      }
    where
      no_bucket : b < 0 → ⊥
      no_bucket lt = omega (arith, lt)

  versions : (p e : ℕ) → OwedByOlderUnlink area p e → IsFirstToLeave s p (Versions e)
  versions p e owed =
      let in_ = subst (λ f. IsAmong p (pages_from pages_bound area.header f)) (sym owed.first) (begins_with area.header p (not_zero p owed.some)) in
      record {
        passes = ((page_by_page s.counted (pages_in s) database.passed).versions e p in_).header;
        behind = (on_versions s.counted s.tables area (pages_bounded (pages_in s)) database.sound e p in_).0;
        used = λ none. not_zero p owed.some (sym owed.first ∙ ap (λ c. (cond c no_pages (its_chains s e)).versions) (eq-eqb (area.title e).state 0 none));
      }

  pub first_to_leave : (p : ℕ) (chain : Chain) → OwedByLeaving s.tables area p chain → IsFirstToLeave s p chain
  first_to_leave p (Rows e b) owed = rows p e b owed
  first_to_leave p (Versions e) owed = versions p e owed

-- a page that passes is told no damage of
pub undamaged : (told : BadChain → StoreFault) (p counted : ℕ) (chain : Chain) (page : List ℕ) (e : StoreFault) → header_check chain counted page ≡ Ok tt
    → EndsTold {T = ℕ} told (EndsOnPage p (NextPageSaid counted chain page)) (Err e) → e ≡ Fault
undamaged told p counted chain page Fault passes ends = refl
undamaged told p counted chain page (Damaged d) passes (bad, ends, tells) = absurd (none bad ends)
  where
    none : (bad : BadChain) → EndsOnPage {T = ℕ} p (NextPageSaid counted chain page) (Err bad) → ⊥
    none (OnPage q b) (here, fails) = let both = sym passes ∙ fails in cc
    none (TooLong last most) ends = ends

module _ {D : Type 0} (first : Image) (g : Ghosts D) (p next : ℕ) (chain : Chain) (a b : View D) where
  pub leaves_it : (result : Result ⊤ StoreFault) → LogsOne {T = ⊤} first g (leaving_record p next chain) a b result
      → (IsTrue g.tells → IsSoundImage first → next ≡ (header_in (pages_in a.now p)).next) → LeavesItsChain first g p chain a b result
  leaves_it (Ok t) one is = (next, one, is)
  leaves_it (Err e) one is = inr (next, one, is)
