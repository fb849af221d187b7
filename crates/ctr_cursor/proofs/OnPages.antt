-- What is read of a page of a chain is the area's, and is read without damage.
use Rattle.std.proofs.Common.{◌≡◌, ℕ, ◌≤◌, List, Result, Ok, Err, refl, sym, ◌∙◌, ap, subst}
use Rattle.std.specs.Prelude.{◌==◌, IfErr}
use Rattle.ctr_disk.specs.declared.fault.StoreFault.{StoreFault}
use Rattle.ctr_disk.specs.declared.fault.StoreFault.TheVariants.{Fault, Damaged}
use Rattle.ctr_page.specs.declared.checks.Chain.{Chain}
use Rattle.ctr_page.specs.declared.checks.Chain.TheVariants.{Rows, Versions}
use Rattle.ctr_page.specs.declared.walk.BadChain.{BadChain}
use Rattle.ctr_page.specs.declared.walk.BadChain.TheVariants.{OnPage, TooLong}
use Rattle.ctr_page.specs.Columns.{kinds_width}
use Rattle.ctr_page.specs.Damage.{chain_kind, header_check}
use Rattle.ctr_page.specs.Places.{room_for}
use Rattle.ctr_walk.specs.redo_States.{State}
use Rattle.ctr_area.specs.Areas.{Firsts, Area}
use Rattle.ctr_area.specs.Chains.{pages_bound, pages_from}
use Rattle.ctr_area.specs.Reading.{width_on, size_of_kind, area_of}
use Rattle.ctr_area.specs.Sound.{IsAmong, IsOfVersions}
use Rattle.ctr_area.proofs.Buckets.{each_of}
use Rattle.ctr_record_laws.specs.Bounds.{IsInBounds}
use Rattle.ctr_record_laws.proofs.Bounds.{pages_bounded}
use Rattle.ctr_record_laws.proofs.Ends.{page_ends}
use Rattle.ctr_walk.specs.record_effects_States.{pages_in, area_in}
use Rattle.ctr_walk.specs.record_effects_Standing.{IsDatabaseState}
use Rattle.ctr_walk.specs.declared.table.TableOf.{TableOf}
use Rattle.ctr_walk.specs.Damage.{EndsOnPage, EndsTold}
use Rattle.ctr_walk.specs.Tables.{kinds_said}
use Rattle.ctr_reading.specs.pvs_Table.{table_check, TableSaid}
use Rattle.ctr_reading.proofs.pvs_Told.{page_of_table}
use Rattle.ctr_reading.proofs.passed_Pagewise.{page_by_page}
use Rattle.ctr_reading.proofs.undamaged_Inside.{table_inside, on_versions}
use Rattle.ctr_reading.proofs.undamaged_There.{table_passes}
use Rattle.ctr_reading.specs.Gathering.{NextSaid}
use Rattle.ctr_reading.proofs.Places.{page_header, page_table}
use Rattle.ctr_cursor.specs.Standing.{IsInChain}
use Rattle.ctr_cursor.proofs.Stays.{of_table}

-- ---- what a page says

-- how many places it has, by the width of its table's rows and the size of a place
pub room_is : (chain : Chain) (counted : ℕ) (pages : ℕ → List ℕ) (p : ℕ) (t : TableOf) (w size n : ℕ) → TableSaid (chain_kind chain) counted pages p (Ok t)
    → w ≡ kinds_width (kinds_said t) → size ≡ size_of_kind (chain_kind chain == 1) w → n ≡ room_for size → (3 ≤ p) × (n ≡ (area_of pages).room p)
room_is chain counted pages p t w size n said wide long fits =
    let page = page_of_table (chain_kind chain) counted pages p t said in
    (page.behind, fits ∙ ap room_for long ∙ ap (λ v. room_for (size_of_kind (chain_kind chain == 1) v)) (wide ∙ page.wide) ∙ sym (ap (λ k. room_for (size_of_kind (k == 1) (width_on pages p))) page.of_kind))

-- ---- which passes, wherever a chain leads

-- what is there isn't damaged
passes_or_fails : {A B : Type 0} (checked : Result A B) (x : A) (bad : B) → checked ≡ Ok x → checked ≡ Err bad → ⊥
passes_or_fails checked x bad passes fails = let e = sym passes ∙ fails in absurd cc

module _ (s : State) (sound : IsDatabaseState s) where
  abbrev pages : ℕ → List ℕ
  pages = pages_in s

  abbrev area : Area
  area = area_in s

  abbrev bounds : IsInBounds area
  bounds = pages_bounded pages

  module _ (e p : ℕ) (on : IsInChain (Versions e) p area) where
    header_is : IsOfVersions e (area.header p)
    header_is = each_of (λ q. IsOfVersions e (area.header q)) p (pages_from pages_bound area.header (area.firsts e).versions) (sound.sound.readable.versions e).0 on

    versions_table : table_check 2 s.counted pages p ≡ Ok tt
    versions_table = table_passes s.counted s.tables pages sound.passed sound.sound 2 e p (record {
      inside = on_versions s.counted s.tables area bounds sound.sound e p on;
      few = table_inside s.counted s.tables area bounds sound.sound e p (of_table (Versions e) p area on);
      used = λ none. subst (λ (f : Firsts). IsAmong p (pages_from pages_bound area.header f.versions) → ⊥) (sym (bounds.free e none)) (λ in_. subst (IsAmong p) (page_ends area.header pages_bound 0 refl) in_) on;
      of_kind = header_is.0;
      of_entry = header_is.1;
    })

    versions_header : header_check (Versions e) s.counted (pages p) ≡ Ok tt
    versions_header = ((page_by_page s.counted pages sound.passed).versions e p on).header

  pub header_good : (chain : Chain) (p : ℕ) → IsInChain chain p area → header_check chain s.counted (pages p) ≡ Ok tt
  header_good (Rows e b) p on = page_header (Rows e b) p s (record { sound = sound; rows = tt; on = on })
  header_good (Versions e) p on = versions_header e p on

  pub table_good : (chain : Chain) (p : ℕ) → IsInChain chain p area → table_check (chain_kind chain) s.counted pages p ≡ Ok tt
  table_good (Rows e b) p on = page_table (Rows e b) p s (record { sound = sound; rows = tt; on = on })
  table_good (Versions e) p on = versions_table e p on

  -- ---- so no damage is told

  pub table_undamaged : (told : BadChain → StoreFault) (chain : Chain) (p : ℕ) → IsInChain chain p area → (r : Result TableOf StoreFault) → EndsTold told (TableSaid (chain_kind chain) s.counted pages p) r → IfErr r (λ e. e ≡ Fault)
  table_undamaged told chain p on (Ok t) ends = tt
  table_undamaged told chain p on (Err Fault) ends = refl
  table_undamaged told chain p on (Err (Damaged d)) (bad, ends, is) = absurd (passes_or_fails (table_check (chain_kind chain) s.counted pages p) tt bad (table_good chain p on) ends)

  pub next_undamaged : (told : BadChain → StoreFault) (chain : Chain) (p : ℕ) → IsInChain chain p area → (r : Result ℕ StoreFault) → EndsTold told (EndsOnPage p (NextSaid chain s.counted (pages p))) r → IfErr r (λ e. e ≡ Fault)
  next_undamaged told chain p on (Ok n) ends = tt
  next_undamaged told chain p on (Err Fault) ends = refl
  next_undamaged told chain p on (Err (Damaged d)) (OnPage q bad, ends, is) = absurd (passes_or_fails (header_check chain s.counted (pages p)) tt bad (header_good chain p on) ends.1)
  next_undamaged told chain p on (Err (Damaged d)) (TooLong last most, ends, is) = absurd ends
