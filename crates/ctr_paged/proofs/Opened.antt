-- From an image to a state that is shown, and back: what an image has is the base after all that asked.
use Rattle.std.proofs.Common.{◌≡◌, ℕ, ◌<◌, ◌≤◌, List, [], length, Some, refl, sym, ◌∙◌, ap, subst, arith}
use Rattle.std.specs.Prelude.{is_some}
use Rattle.std.specs.Ordering.{nat_cmp}
use Rattle.std.specs.FinMap.Entries.{find}
use Rattle.std.proofs.lemmas.Bool.{false≢true}
use Rattle.std.proofs.lemmas.List.{take_all}
use Rattle.ctr_model.specs.declared.state.State.{State}
use Rattle.ctr_model.specs.Database.{after_all}
use Rattle.ctr_model.specs.State.{at_rest}
use Rattle.ctr_versions.specs.Chains.{by}
use Rattle.ctr_versions.specs.Xids.{number_of}
use Rattle.ctr_versions.specs.Versions.{database_seen}
use Rattle.ctr_versions.specs.Engine.{ShowsState}
use Rattle.ctr_versions.proofs.Opened.{opened_state}
use Rattle.ctr_versions.proofs.Versions.{world_shows}
use Rattle.ctr_actions.specs.meta_Tables.{Tables}
use Rattle.ctr_actions.specs.area_Areas.{Area}
use Rattle.ctr_actions.specs.area_Chains.{pages_bound}
use Rattle.ctr_actions.specs.area_Images.{is_committed_in, versions_in, image_rows, name_chain, all_numbered}
use Rattle.ctr_actions.specs.area_Sound.{IsSoundArea}
use Rattle.ctr_names.proofs.record_laws_Slots.{rows_sorted}
use Rattle.ctr_actions.specs.record_laws_Bounds.{IsInBounds}
use Rattle.ctr_actions.specs.Sites.{Site, IsSoundSite}
use Rattle.ctr_paged.specs.Paged.{Run, xids_of, engine_at, at_open, ShowsPaged}
use Rattle.ctr_names.proofs.Names.{sorted-names, is_ordered, rows_shown}
use Rattle.ctr_paged.proofs.Tables.{agree, by_all, xids_sound}
use Rattle.ctr_names.proofs.Whole.{all_drawn, rows_behind, names_behind}

-- what is shown at the number of all that asked
pub shown_rows : (tables : Tables) (area : Area) (counted : ℕ) (commits : List ℕ) (j : ℕ) → IsSoundArea counted tables area → length commits ≤ j
    → database_seen (by (number_of (xids_of tables commits)) j) (versions_in (is_committed_in tables) area) ≡ image_rows (is_committed_in tables) area
shown_rows tables area counted commits j sound le = ap (λ test. database_seen test (versions_in (is_committed_in tables) area)) (λ i x. by_all tables commits j x le i) ∙ rows_shown (is_committed_in tables) refl area sound.names.standing

none_found : {X : Type 0} (s : ℕ) (x : X) → find nat_cmp s [] ≡ Some x → ⊥
none_found s x e = false≢true (ap is_some e)

-- A sound site, with nobody in a transaction: its rows are the base.
pub opened : (site : Site) (stuck : List (List ℕ)) → IsInBounds site.area → site.counted ≤ pages_bound → IsSoundSite site → 0 < site.tables.next
    → ShowsPaged 0 site at_open (at_rest (image_rows (is_committed_in site.tables) site.area) stuck)
opened site stuck bounds few sound some = record {
  bounds = bounds;
  few = few;
  sound = sound;
  some = some;
  shows = subst (λ base. ShowsState 0 (engine_at site at_open) (at_rest base stuck)) (shown_rows site.tables site.area site.counted [] 0 sound (omega arith))
      (opened_state (xids_of site.tables []) (versions_in (is_committed_in site.tables) site.area) stuck (xids_sound site.counted site.tables site.area [] sound some tt tt) refl
      (sorted-names (name_chain (is_committed_in site.tables) site.area.title) (all_numbered site.area.title)) (rows_sorted (is_committed_in site.tables) site.area)
      (names_behind site.counted site.tables site.area sound some (number_of (xids_of site.tables [])) (agree site.tables []))
      (rows_behind site.counted site.tables site.area sound some (number_of (xids_of site.tables [])) (agree site.tables []) (is_committed_in site.tables))
      (all_drawn site.counted site.tables site.area sound some (is_committed_in site.tables)));
  drops = λ s b at. absurd (none_found s b at);
  earlier = λ s b at. absurd (none_found s b at);
  modelled = λ s b at. absurd (none_found s b at);
  ordered = is_ordered (is_committed_in site.tables) refl site.area sound.names.standing;
}

-- Whatever happened since, the rows of the image are the base after all that asked, of which each has one Commit
-- record.
pub image_shows : (low : ℕ) (site : Site) (run : Run) (state : State) → ShowsPaged low site run state → image_rows (is_committed_in site.tables) site.area ≡ after_all state.asked state.base
image_shows low site run state paged =
    let all = length state.asked in
    let shows = paged.shows in
    sym (shown_rows site.tables site.area site.counted run.commits all paged.sound (subst (λ n. n ≤ all) (sym shows.counted) (omega arith)))
    ∙ world_shows low (number_of (xids_of site.tables run.commits)) state (versions_in (is_committed_in site.tables) site.area) paged.ordered shows.stands all (omega (arith, shows.lowest, shows.answered))
    ∙ ap (λ ts. after_all ts state.base) (take_all all state.asked (omega arith))

-- After a stop, whatever was going on: the image opens on the base after all that asked, and nobody is in a
-- transaction.
pub reopened : (low : ℕ) (site : Site) (run : Run) (state : State) (stuck : List (List ℕ)) → ShowsPaged low site run state
    → ShowsPaged 0 site at_open (at_rest (after_all state.asked state.base) stuck)
reopened low site run state stuck paged = subst (λ base. ShowsPaged 0 site at_open (at_rest base stuck)) (image_shows low site run state paged)
    (opened site stuck paged.bounds paged.few paged.sound paged.some)
