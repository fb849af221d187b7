-- Pages that pass stay so, where bytes lie as an action lays them and its own pass.
use Rattle.std.proofs.Common.{◌≡◌, ⊎_elim, ℕ, ◌+◌, ◌*◌, ◌/◌, ◌%◌, ◌<◌, ◌≤◌, true, List, length, sym, ◌∙◌, ap, subst, arith}
use Rattle.std.specs.List.{flat_map, AllByRecursion}
use Rattle.std.proofs.lemmas.Bool.{cases_eq}
use Rattle.std.proofs.lemmas.Nat.{div_below}
use Rattle.ctr_actions.specs.meta_Tables.{Tables}
use Rattle.ctr_actions.specs.page_Chain.TheVariants.{Rows, Versions}
use Rattle.ctr_actions.specs.page_Place.{Place}
use Rattle.ctr_actions.specs.page_Columns.{kinds_width, slot_start, kept_start}
use Rattle.ctr_actions.specs.page_Damage.{header_check, slot_check, kept_check, entry_check}
use Rattle.ctr_actions.specs.page_Places.{slot_size, kept_size}
use Rattle.ctr_actions.specs.area_Areas.{Area}
use Rattle.ctr_actions.specs.area_Chains.{pages_bound, pages_from, places_from, table_pages, slot_places, older_places}
use Rattle.ctr_actions.specs.area_Checked.{Passes, kinds_at}
use Rattle.ctr_actions.specs.area_Images.{entry_numbers}
use Rattle.ctr_actions.specs.area_Sound.{IsAmong, IsOfRows, IsOfVersions, page_of_item, owned_pages, IsSoundArea}
use Rattle.ctr_actions.proofs.area_Buckets.{each_of, on_chain}
use Rattle.ctr_actions.specs.record_laws_Bounds.{IsInBounds}
use Rattle.ctr_actions.proofs.record_laws_Away.{place_on_chains}
use Rattle.ctr_actions.proofs.record_laws_Ends.{one_among, bucket_chain}
use Rattle.ctr_actions.proofs.record_laws_Format.{page_inside}
use Rattle.ctr_actions.proofs.record_laws_Members.{among_front, among_rest, among_flat}
use Rattle.ctr_actions.proofs.record_laws_Owned.{in_all}
use Rattle.ctr_passed.specs.Laid.{LiesOnMap, LiesOnOnePage, LiesInEntry, LiesAtPlace, EntryPasses, RowsPagePasses, OlderPagePasses}
use Rattle.ctr_passed.proofs.Agreeing.{slot_same, kept_same, header_same, entry_same}
use Rattle.ctr_passed.proofs.Pagewise.{index_of, bucket_at, PassedIn}

-- an entry of the catalog stands on page 1 or 2
pub on_catalog : (e : ℕ) → e < 32 → (1 ≤ 1 + e / 16) × (1 + e / 16 < 3)
on_catalog e lt = let d = div_below e 16 2 (omega arith) (omega (arith, lt)) in (omega arith, omega (arith, d))

module _ (counted : ℕ) (tables : Tables) (area : Area) (bounds : IsInBounds area) (sound : IsSoundArea counted tables area) where
  abbrev Chained : ℕ → ℕ → Type 0
  Chained p first = IsAmong p (pages_from pages_bound area.header first)

  -- ---- what stands on the pages of a table

  pub of_rows : (e b p : ℕ) → b < length (area.firsts e).buckets → Chained p (bucket_at area e b) → IsOfRows e b (area.header p)
  of_rows e b p lt in_ = each_of (λ q. IsOfRows e b (area.header q)) p (pages_from pages_bound area.header (bucket_at area e b))
      (subst (λ m. AllOf m) (let z : 0 + b ≡ b = omega arith in z) (bucket_chain area e 0 b (area.firsts e).buckets lt (sound.readable.rows e)).0) in_
    where
      AllOf : ℕ → Type 0
      AllOf m = AllByRecursion (λ q. IsOfRows e m (area.header q)) (pages_from pages_bound area.header (bucket_at area e b))

  pub of_versions : (e p : ℕ) → Chained p (area.firsts e).versions → IsOfVersions e (area.header p)
  of_versions e p in_ = each_of (λ q. IsOfVersions e (area.header q)) p (pages_from pages_bound area.header (area.firsts e).versions) (sound.readable.versions e).0 in_

  pub in_rows : (e b p : ℕ) → b < length (area.firsts e).buckets → Chained p (bucket_at area e b) → IsAmong p (table_pages area e)
  in_rows e b p lt in_ = among_front p (flat_map (pages_from pages_bound area.header) (area.firsts e).buckets) (pages_from pages_bound area.header (area.firsts e).versions)
      (one_among (pages_from pages_bound area.header) p (area.firsts e).buckets b lt in_)

  pub in_versions : (e p : ℕ) → Chained p (area.firsts e).versions → IsAmong p (table_pages area e)
  in_versions e p in_ = among_rest p (flat_map (pages_from pages_bound area.header) (area.firsts e).buckets) (pages_from pages_bound area.header (area.firsts e).versions) in_

  pub third : (e p : ℕ) → IsAmong p (table_pages area e) → 3 ≤ p
  third e p in_ = (each_of (λ p. (3 ≤ p) × (p < counted) × (area.taken p ≡ true)) p (owned_pages tables.items area) sound.owned.inside
      (among_front p (flat_map (table_pages area) entry_numbers) (flat_map page_of_item tables.items) (in_all area bounds (table_pages area) p e (page_inside area bounds e p in_) in_))).0

  two_kinds : (k : ℕ) → k ≡ 2 → k ≡ 1 → ⊥
  two_kinds k two one = omega (arith, two, one)

  beyond : (q p : ℕ) → q ≡ p → q < 3 → 3 ≤ p → ⊥
  beyond q p is lt ge = omega (arith, is, lt, ge)

  pub slot_header : (e : ℕ) (at : Place) → IsAmong at (slot_places area e) → ((area.header at.page).kind ≡ 1) × ((area.header at.page).entry ≡ e)
  slot_header e at in_ =
      let found = among_flat (places_from area) at (area.firsts e).buckets in_ in
      let b = index_of found.0 (area.firsts e).buckets found.1 in
      let its = of_rows e b.0 at.page b.1 (subst (λ f. IsAmong at.page (pages_from pages_bound area.header f)) (sym b.2) (on_chain area found.0 at found.2).0) in
      (its.0, its.1)

  -- ---- other pages, the same area

  module _ (pages new : ℕ → List ℕ) (passed : PassedIn counted pages area) where
    entry_was : (e : ℕ) → e < 32 → new (1 + e / 16) ≡ pages (1 + e / 16) → EntryPasses counted new e
    entry_was e lt same = subst (λ (bs : List ℕ). Passes (entry_check counted (256 * (e % 16)) bs)) (sym same) (passed.entries e lt)

    rows_was : (e b p : ℕ) → b < length (area.firsts e).buckets → Chained p (bucket_at area e b) → new p ≡ pages p → RowsPagePasses counted area new e b p
    rows_was e b p lt in_ same = let was = passed.rows e b p lt in_ in record {
      header = subst (λ (bs : List ℕ). Passes (header_check (Rows e b) counted bs)) (sym same) was.header;
      slots = λ n fits. subst (λ (bs : List ℕ). Passes (slot_check (kinds_at area e) counted (slot_start (kinds_at area e) n) bs)) (sym same) (was.slots n fits);
    }

    older_was : (e p : ℕ) → Chained p (area.firsts e).versions → new p ≡ pages p → OlderPagePasses counted area new e p
    older_was e p in_ same = let was = passed.versions e p in_ in record {
      header = subst (λ (bs : List ℕ). Passes (header_check (Versions e) counted bs)) (sym same) was.header;
      older = λ n fits. subst (λ (bs : List ℕ). Passes (kept_check (kinds_at area e) counted (kept_start (kinds_at area e) n) bs)) (sym same) (was.older n fits);
    }

    some : (e p : ℕ) → IsAmong p (table_pages area e) → 1 ≤ p
    some e p in_ = let t = third e p in_ in omega (arith, t)

    -- bytes on the map of allocated pages
    pub map_laid : LiesOnMap pages new → PassedIn counted new area
    map_laid lies = record {
      entries = λ e lt. entry_was e lt (lies (1 + e / 16) (on_catalog e lt).0);
      rows = λ e b p lt in_. rows_was e b p lt in_ (lies p (some e p (in_rows e b p lt in_)));
      versions = λ e p in_. older_was e p in_ (lies p (some e p (in_versions e p in_)));
    }

    -- bytes on a page that no chain has
    pub page_laid : (p : ℕ) → 3 ≤ p → ((e : ℕ) → IsAmong p (table_pages area e) → ⊥) → LiesOnOnePage p pages new → PassedIn counted new area
    page_laid p behind alone lies = record {
      entries = λ e lt. entry_was e lt (lies (1 + e / 16) (λ is. beyond (1 + e / 16) p is (on_catalog e lt).1 behind));
      rows = λ e b q lt in_. rows_was e b q lt in_ (lies q (λ is. alone e (subst (λ r. IsAmong r (table_pages area e)) is (in_rows e b q lt in_))));
      versions = λ e q in_. older_was e q in_ (lies q (λ is. alone e (subst (λ r. IsAmong r (table_pages area e)) is (in_versions e q in_))));
    }

    -- bytes in an entry of the catalog
    pub entry_laid : (e : ℕ) → LiesInEntry e pages new → EntryPasses counted new e → PassedIn counted new area
    entry_laid e lies own = record {
      entries = λ f lt. ⊎_elim (λ is. subst (EntryPasses counted new) (sym is) own)
          (λ isnt. entry_same (256 * (f % 16)) (pages (1 + f / 16)) (new (1 + f / 16)) (lies.others f lt isnt) counted ∙ passed.entries f lt) (cases_eq f e);
      rows = λ f b p lt in_. rows_was f b p lt in_ (lies.pages p (third f p (in_rows f b p lt in_)));
      versions = λ f p in_. older_was f p in_ (lies.pages p (third f p (in_versions f p in_)));
    }

    -- bytes at a slot of a table
    module _ (e : ℕ) (at : Place) (here : IsAmong at (slot_places area e)) (lies : LiesAtPlace at (slot_size (kinds_width (kinds_at area e))) pages new)
        (own : Passes (slot_check (kinds_at area e) counted (slot_start (kinds_at area e) at.slot) (new at.page))) where
      its_page : IsAmong at.page (table_pages area e)
      its_page = among_front at.page (flat_map (pages_from pages_bound area.header) (area.firsts e).buckets) (pages_from pages_bound area.header (area.firsts e).versions) (place_on_chains area (area.firsts e).buckets at here)

      of_e : ((area.header at.page).kind ≡ 1) × ((area.header at.page).entry ≡ e)
      of_e = slot_header e at here

      pub slot_laid : PassedIn counted new area
      slot_laid = record {
        entries = λ f lt. entry_was f lt (lies.pages (1 + f / 16) (λ is. beyond (1 + f / 16) at.page is (on_catalog f lt).1 (third e at.page its_page)));
        rows = λ f b p lt in_. ⊎_elim
            (λ is. let f_e : f ≡ e = sym (of_rows f b p lt in_).1 ∙ ap (λ q. (area.header q).entry) is ∙ of_e.1 in record {
              header = subst (λ q. Passes (header_check (Rows f b) counted (new q))) (sym is) (header_same (Rows f b) counted (pages at.page) (new at.page) lies.header ∙ subst (λ q. Passes (header_check (Rows f b) counted (pages q))) is (passed.rows f b p lt in_).header);
              slots = λ n fits. subst (λ g. Passes (slot_check (kinds_at area g) counted (slot_start (kinds_at area g) n) (new p))) (sym f_e)
                  (subst (λ q. Passes (slot_check (kinds_at area e) counted (slot_start (kinds_at area e) n) (new q))) (sym is) (⊎_elim
                  (λ one. subst (λ m. Passes (slot_check (kinds_at area e) counted (slot_start (kinds_at area e) m) (new at.page))) (sym one) own)
                  (λ two. slot_same (kinds_at area e) (slot_start (kinds_at area e) n) (pages at.page) (new at.page) (lies.others n two) counted
                  ∙ subst (λ q. Passes (slot_check (kinds_at area e) counted (slot_start (kinds_at area e) n) (pages q))) is (subst (λ g. Passes (slot_check (kinds_at area g) counted (slot_start (kinds_at area g) n) (pages p))) f_e ((passed.rows f b p lt in_).slots n fits)))
                  (cases_eq n at.slot)));
            })
            (λ isnt. rows_was f b p lt in_ (lies.pages p isnt)) (cases_eq p at.page);
        versions = λ f p in_. older_was f p in_ (lies.pages p (λ is. two_kinds (area.header p).kind (of_versions f p in_).0 (ap (λ q. (area.header q).kind) is ∙ of_e.0)));
      }

    module _ (e : ℕ) (at : Place) (here : IsAmong at (older_places area e)) (lies : LiesAtPlace at (kept_size (kinds_width (kinds_at area e))) pages new)
        (own : Passes (kept_check (kinds_at area e) counted (kept_start (kinds_at area e) at.slot) (new at.page))) where
      on_it : Chained at.page (area.firsts e).versions
      on_it = (on_chain area (area.firsts e).versions at here).0

      pub older_laid : PassedIn counted new area
      older_laid = record {
        entries = λ f lt. entry_was f lt (lies.pages (1 + f / 16) (λ is. beyond (1 + f / 16) at.page is (on_catalog f lt).1 (third e at.page (in_versions e at.page on_it))));
        rows = λ f b p lt in_. rows_was f b p lt in_ (lies.pages p (λ is. two_kinds (area.header at.page).kind (of_versions e at.page on_it).0 (ap (λ q. (area.header q).kind) (sym is) ∙ (of_rows f b p lt in_).0)));
        versions = λ f p in_. ⊎_elim
            (λ is. let f_e : f ≡ e = sym (of_versions f p in_).1 ∙ ap (λ q. (area.header q).entry) is ∙ (of_versions e at.page on_it).1 in record {
              header = subst (λ q. Passes (header_check (Versions f) counted (new q))) (sym is) (header_same (Versions f) counted (pages at.page) (new at.page) lies.header ∙ subst (λ q. Passes (header_check (Versions f) counted (pages q))) is (passed.versions f p in_).header);
              older = λ n fits. subst (λ g. Passes (kept_check (kinds_at area g) counted (kept_start (kinds_at area g) n) (new p))) (sym f_e)
                  (subst (λ q. Passes (kept_check (kinds_at area e) counted (kept_start (kinds_at area e) n) (new q))) (sym is) (⊎_elim
                  (λ one. subst (λ m. Passes (kept_check (kinds_at area e) counted (kept_start (kinds_at area e) m) (new at.page))) (sym one) own)
                  (λ two. kept_same (kinds_at area e) (kept_start (kinds_at area e) n) (pages at.page) (new at.page) (lies.others n two) counted
                  ∙ subst (λ q. Passes (kept_check (kinds_at area e) counted (kept_start (kinds_at area e) n) (pages q))) is (subst (λ g. Passes (kept_check (kinds_at area g) counted (kept_start (kinds_at area g) n) (pages p))) f_e ((passed.versions f p in_).older n fits)))
                  (cases_eq n at.slot)));
            })
            (λ isnt. older_was f p in_ (lies.pages p isnt)) (cases_eq p at.page);
      }
