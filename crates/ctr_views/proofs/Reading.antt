-- The table that is found is that of the view, and what its slots show are the view's rows.
use Rattle.std.proofs.Common.{◌≡◌, ℕ, ℤ, Bool, List, Option, Some, None, sym, ◌∙◌, ap}
use Rattle.std.specs.Option.{option_map}
use Rattle.std.specs.Prelude.{T}
use Rattle.std.specs.Ordering.{int_cmp}
use Rattle.std.specs.FinMap.Entries.{is_sorted}
use Rattle.ctr_types.specs.declared.value.Row.{Row}
use Rattle.ctr_model.specs.Database.{table_at}
use Rattle.ctr_model.specs.Refusals.{row_of}
use Rattle.ctr_model.specs.State.{view}
use Rattle.ctr_versions.specs.Chains.{value_seen}
use Rattle.ctr_versions.specs.Engine.{session_sees}
use Rattle.ctr_versions.specs.Listing.{entries_seen}
use Rattle.ctr_versions.specs.Versions.{Made, Versions, names_at, rows_of, slots_of, table_seen}
use Rattle.ctr_versions.specs.Xids.{Xids}
use Rattle.ctr_versions.proofs.Listing.{is_sorted-shown}
use Rattle.ctr_versions.proofs.Reading.{row_read, session_reads}
use Rattle.ctr_paged.specs.area_Images.{is_committed_in, made_by_entry, versions_in}
use Rattle.ctr_paged.specs.legal_Kept.{IsFirm}
use Rattle.ctr_paged.proofs.record_laws_Slots.{rows_sorted, slot_wasnt}
use Rattle.ctr_paged.specs.ctr_names.Search.{IsEntryFound}
use Rattle.ctr_paged.proofs.names_Search.{sought_shows}
use Rattle.ctr_paged.specs.actions_Sites.{Site}
use Rattle.ctr_paged.specs.Paged.{xids_of, engine_at}
use Rattle.ctr_paged.specs.Shown.{Scene, IsShown}
use Rattle.ctr_views.specs.Viewing.{Viewer, sees_by}
use Rattle.ctr_views.specs.Scanning.{IsNoSlot}
use Rattle.ctr_views.proofs.Looking.{names_shown, session_shown, look, looking, as_found}

module _ (low : ℕ) (site : Site) (scene : Scene) (shown : IsShown low site scene) (v : Viewer scene) (firm : IsFirm scene.state.asked v.t) (name : List ℕ) (e : ℕ) (found : IsEntryFound (sees_by site v) name site.area e) where
  abbrev pub xids : Xids
  xids = xids_of site.tables scene.run.commits

  abbrev pub versions : Versions
  versions = versions_in (is_committed_in site.tables) site.area

  abbrev pub made : Made
  made = made_by_entry (e, site.area.title e)

  -- the session's own test, by the versions
  abbrev pub seen : ℕ → Bool
  seen = session_sees xids v.session

  pub found_made : value_seen seen (names_at versions name) ≡ Some made
  found_made =
      let its = as_found low site scene shown v name e found in
      sought_shows site.counted low site.tables site.area xids scene.state (look low site scene shown v firm name) shown.paged.sound shown.paged.bounds (names_shown low site scene shown) (looking low site scene shown v firm name) e its.0 its.1 its.2

  pub table_found : table_at (view scene.state v.t) name ≡ Some (table_seen seen versions made)
  table_found =
      sym (session_reads low (engine_at site scene.run) scene.state v.session v.t name shown.paged.ordered shown.paged.shows (session_shown low site scene shown v) v.calm)
      ∙ ap (option_map (table_seen seen versions)) found_made

  abbrev viewed : ℤ → Option Row
  viewed key = row_of (table_at (view scene.state v.t) name) key

  pub row_viewed : (key : ℤ) → viewed key ≡ value_seen seen (rows_of versions e key)
  row_viewed key = ap (λ o. row_of o key) table_found ∙ row_read seen versions made key (rows_sorted (is_committed_in site.tables) site.area e)

  pub none_viewed : (key : ℤ) → IsNoSlot site.area e key → viewed key ≡ None
  none_viewed key none = row_viewed key ∙ ap (value_seen seen) (slot_wasnt (is_committed_in site.tables) site.area e key found.0 (λ b in_ used is. none b (in_, used) is))

  -- the rows that its own test sees
  abbrev pub seen_rows : List (ℤ × Row)
  seen_rows = entries_seen seen (slots_of versions e)

  pub seen_sorted : T (is_sorted int_cmp seen_rows)
  seen_sorted = is_sorted-shown int_cmp seen (slots_of versions e) (rows_sorted (is_committed_in site.tables) site.area e)
