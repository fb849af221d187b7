use Rattle.std.proofs.Common.{◌≡◌, ℕ, ◌+◌, ◌≤◌, ◌<◌, List, drop, length, sym, ◌∙◌, ap, subst}
use Rattle.ctr_page.specs.declared.rows.Place.{Place}
use Rattle.ctr_page.specs.declared.table.TheConstants.{PAGE_SIZE}
use Rattle.ctr_page.specs.Places.{start_of}
use Rattle.ctr_heap.specs.area_Changes.{IsPlaceOf}
use Rattle.ctr_page.specs.Columns.{kinds_of, kinds_width, columns_in}
use Rattle.ctr_page.proofs.Holding.{kinds_wide}
use Rattle.ctr_page.proofs.Searches.{lies_on_page}
use Rattle.ctr_heap.specs.area_Reading.{header_on, columns_on, width_on, size_on, entry_bytes, area_of}
use Rattle.ctr_heap.proofs.area_Buckets.{on_chain}
use Rattle.ctr_heap.specs.record_effects_States.{pages_in}
use Rattle.ctr_heap.proofs.record_laws_Members.{among_flat}
use Rattle.ctr_heap.specs.area_Chains.{places_from}
use Rattle.ctr_undamaged.proofs.Walks.{rows_room, versions_room}
use Rattle.ctr_undamaged.proofs.There.{slot_page, older_page}
use Rattle.ctr_undamaged.proofs.places.a_place_of_a_table_fits.Goals as goal

wide : (pages : ℕ → List ℕ) (q e : ℕ) → (header_on pages q).entry ≡ e → width_on pages q ≡ kinds_width (kinds_of (columns_in (entry_bytes pages e)))
wide pages q e of_e = sym (kinds_wide (drop 1 (columns_on pages q))) ∙ ap (λ f. kinds_width (kinds_of (columns_in (entry_bytes pages f)))) of_e

-- a place on a whole page of its kind, with room for it
fits : (kind : ℕ) (pages : ℕ → List ℕ) (at : Place) → 3 ≤ at.page → (header_on pages at.page).kind ≡ kind → at.slot < (area_of pages).room at.page → length (pages at.page) ≡ PAGE_SIZE → IsPlaceOf kind pages at
fits kind pages at third of_kind low whole = record {
  behind_catalog = third;
  of_kind = of_kind;
  inside = subst (λ l. start_of (size_on pages at.page) at.slot + size_on pages at.page ≤ l) (sym whole) (lies_on_page (size_on pages at.page) at.slot low);
}

of_table : (pages : ℕ → List ℕ) (q e : ℕ) → (header_on pages q).entry ≡ e → columns_on pages q ≡ columns_in (entry_bytes pages e)
of_table pages q e = ap (λ f. columns_in (entry_bytes pages f))

pub returns-clause-rows : goal.returns-clause-rows
returns-clause-rows c = λ s e at sound in_.
    let pages = pages_in s in
    let page = slot_page s.counted s.tables pages sound.passed sound.sound e at in_ in
    let found = among_flat (places_from (area_of pages)) at ((area_of pages).firsts e).buckets in_ in
    let low : at.slot < (area_of pages).room at.page = (on_chain (area_of pages) found.0 at found.2).1 in (
      fits 1 pages at page.inside.0 page.of_kind low,
      wide pages at.page e page.of_entry,
      of_table pages at.page e page.of_entry,
      page.inside.0,
      page.inside.1,
      subst (λ m. at.slot < m) (sym (rows_room pages at.page e page.of_entry page.of_kind)) low,
    )

pub returns-clause-versions : goal.returns-clause-versions
returns-clause-versions c = λ s e at sound in_.
    let pages = pages_in s in
    let page = older_page s.counted s.tables pages sound.passed sound.sound e at in_ in
    let low : at.slot < (area_of pages).room at.page = (on_chain (area_of pages) ((area_of pages).firsts e).versions at in_).1 in (
      fits 2 pages at page.inside.0 page.of_kind low,
      wide pages at.page e page.of_entry,
      of_table pages at.page e page.of_entry,
      page.inside.0,
      page.inside.1,
      subst (λ m. at.slot < m) (sym (versions_room pages at.page e page.of_entry page.of_kind)) low,
    )
