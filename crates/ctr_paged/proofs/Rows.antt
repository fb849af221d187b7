-- Records on slots and version entries: Row, Revert, and Trim of a slot and of an entry that is cut.
use Rattle.std.proofs.Common.{◌≡◌, inr, ℕ, ◌<◌, Bool, true, List, drop, Option, Some, None, refl, sym, ◌∙◌, ap, subst}
use Rattle.std.specs.Prelude.{is_some}
use Rattle.std.specs.Ordering.{nat_cmp}
use Rattle.std.specs.FinMap.Entries.{find}
use Rattle.std.proofs.lemmas.Bool.{false≢true}
use Rattle.ctr_model.specs.declared.state.State.{State}
use Rattle.ctr_model.specs.declared.state.Transaction.{Transaction}
use Rattle.ctr_model.specs.State.{with_transaction}
use Rattle.ctr_versions.proofs.Keys.{some_is}
use Rattle.ctr_versions.specs.Keys.{row_written}
use Rattle.ctr_versions.specs.Chains.{Numbers}
use Rattle.ctr_versions.specs.Changes.{write, IsOld}
use Rattle.ctr_versions.specs.Xids.{number_of}
use Rattle.ctr_versions.specs.Versions.{Made, Versions, rows_of, RowsSet, IsTableOf}
use Rattle.ctr_versions.specs.Engine.{SessionHeld, EngineHeld, ShowsSession, ShowsState}
use Rattle.ctr_versions.specs.Steps.{IsFreeKey}
use Rattle.ctr_versions.specs.Laws.{with_own}
use Rattle.ctr_versions.proofs.Steps.{write_step}
use Rattle.ctr_versions.proofs.Cleaning.{cut_step, free_step, revert_step}
use Rattle.ctr_actions.specs.meta_Tables.{Tables, is_in}
use Rattle.ctr_actions.specs.meta_Effects.{one_aborted_less, one_head_more}
use Rattle.ctr_actions.specs.page_Place.{Place}
use Rattle.ctr_actions.specs.area_Chains.{chain_of}
use Rattle.ctr_actions.specs.area_Images.{is_committed_in, versions_in}
use Rattle.ctr_actions.specs.record_laws_Bounds.{IsInBounds}
use Rattle.ctr_actions.specs.record_laws_Owed.{RowMove, row_moved, row_counted, OwedByRow, loses_head, Reverting, OwedByRevert, reverted_at, Trimming, trimmed_chain, OwedByTrim, trimmed_at, OwedByCut, cut_at, CutHead, CutPrevious, FreeTombstone}
use Rattle.ctr_names.proofs.record_laws_RowLaw as row_law
use Rattle.ctr_actions.proofs.record_laws_RevertLaw as revert_law
use Rattle.ctr_names.proofs.record_laws_TrimLaw as trim_law
use Rattle.ctr_names.proofs.record_laws_EntryLaws as entry_law
use Rattle.ctr_names.proofs.record_laws_Heads.{listed_drawn, listed_open, never_both}
use Rattle.ctr_actions.proofs.record_laws_Owned.{slot_inside}
use Rattle.ctr_names.proofs.record_laws_Slots.{slot_was}
use Rattle.ctr_actions.proofs.record_laws_Xids.{HaveSameXids, more_same, less_same, aborted_less_same, both_same}
use Rattle.ctr_actions.specs.Sites.{Site}
use Rattle.ctr_paged.specs.Paged.{Run, xids_of, engine_at, ShowsPaged}
use Rattle.ctr_paged.proofs.Carry.{HaveSameNumbers, same_tables, drops_same, open_some, paged_moved, modelled_put}
use Rattle.ctr_paged.proofs.Tables.{has_in, agree}

numbers_only : (old new : Tables) → HaveSameXids old new → HaveSameNumbers old new
numbers_only old new same_ = record { next = same_.next; opens = same_.opens; aborted = same_.aborted }

module _ (low : ℕ) (site : Site) (run : Run) (state : State) (paged : ShowsPaged low site run state) where
  abbrev number : Numbers
  number = number_of (xids_of site.tables run.commits)

  abbrev engine : EngineHeld
  engine = engine_at site run

  -- the session of a transaction shows it
  pub theirs : (s : ℕ) (session : SessionHeld) (t : Transaction) → find nat_cmp s run.sessions ≡ Some session → find nat_cmp s state.sessions ≡ Some t → ShowsSession low state.answered engine.xids engine.versions session t
  theirs s session t at is =
      let one = paged.shows.inside s t is in
      subst (λ (a : SessionHeld). ShowsSession low state.answered engine.xids engine.versions a t) (some_is one.0 session (sym one.1 ∙ at)) one.2

  -- ---- Row

  pub row_shows : (m : RowMove) → OwedByRow site.tables site.area m → IsInBounds (row_moved m site.area)
      → (s : ℕ) (session : SessionHeld) (t : Transaction) (table : List ℕ) → find nat_cmp s run.sessions ≡ Some session → find nat_cmp s state.sessions ≡ Some t → t.asked ≡ None → session.me ≡ m.xid
      → IsTableOf number engine.versions session.me t.snapshot table m.entry → IsFreeKey engine state.sessions s m.entry m.key
      → ShowsPaged low (record site { tables = row_counted m site.area site.tables; area = row_moved m site.area }) run (with_transaction s (with_own (row_written table m.key m.row) t) state)
  row_shows m owed bounds s session t table at is unasked mine on free =
      let next = with_transaction s (with_own (row_written table m.key m.row) t) state in
      let same_ : HaveSameNumbers site.tables (row_counted m site.area site.tables) = numbers_only site.tables (row_counted m site.area site.tables)
      (both_same site.tables (one_head_more m.xid site.tables) (row_counted m site.area site.tables) (more_same m.xid site.tables) (less_same (loses_head site.tables (site.area.slot m.at)) (one_head_more m.xid site.tables))) in
      paged_moved low site run state paged (row_moved m site.area) (row_counted m site.area site.tables) next bounds (row_law.row_sound site.counted site.tables site.area m paged.bounds paged.sound owed) same_ (drops_same site.area.title)
      (write_step low engine state s session t paged.shows at (theirs s session t at is) unasked (open_some site.counted site.tables site.area paged.sound session.me (subst (λ x. is_in x site.tables.opens ≡ true) (sym mine) owed.is_open))
      (versions_in (is_committed_in site.tables) (row_moved m site.area)) table m.entry m.key m.row
      (subst (λ x. RowsSet engine.versions (versions_in (is_committed_in site.tables) (row_moved m site.area)) m.entry m.key (write number x m.row (rows_of engine.versions m.entry m.key))) (sym mine)
      (row_law.row_step site.counted site.tables site.area m paged.bounds paged.sound owed number (is_committed_in site.tables) (agree site.tables run.commits))) on free)
      (modelled_put s (with_own (row_written table m.key m.row) t) run.sessions state.sessions paged.modelled) refl refl

  -- ---- a head that is aborted is no session's

  pub aborted_nobodys : (x : ℕ) → is_in x site.tables.aborted ≡ true → (s : ℕ) (session : SessionHeld) → find nat_cmp s run.sessions ≡ Some session → session.me ≡ x → ⊥
  aborted_nobodys x gone s session at same_ =
      let its = paged.modelled s session at in
      let shown = theirs s session its.0 at its.1 in
      by its.0 shown its.0.asked refl
    where
      me_gone : is_in session.me site.tables.aborted ≡ true
      me_gone = ap (λ y. is_in y site.tables.aborted) same_ ∙ gone

      me_some : 0 < session.me
      me_some = (listed_drawn site.tables.next site.area site.tables paged.sound.below session.me (inr me_gone)).0

      by : (t : Transaction) → ShowsSession low state.answered engine.xids engine.versions session t → (o : Option ℕ) → t.asked ≡ o → ⊥
      by t shown None unasked = never_both site.tables.next site.area site.tables paged.sound.below session.me (sym (has_in session.me site.tables.opens) ∙ shown.live unasked me_some) me_gone
      by t shown (Some k) asked = false≢true (sym (listed_open site.tables session.me (inr me_gone)) ∙ sym (agree site.tables run.commits session.me) ∙ ap is_some (shown.asked k asked))

  -- ---- Revert

  pub revert_shows : (e : ℕ) (at : Place) (way : Reverting) → OwedByRevert site.tables site.area e at way → IsInBounds (reverted_at at way site.area)
      → ShowsPaged low (record site { tables = one_aborted_less (site.area.slot at).head.0 site.tables; area = reverted_at at way site.area }) run state
  revert_shows e at way owed bounds =
      let head = (site.area.slot at).head in
      let made : Made = record { id = e; schema = record { columns = (site.area.title e).columns } } in
      let inside = slot_inside site.area paged.bounds e at owed.used.0 in
      paged_moved low site run state paged (reverted_at at way site.area) (one_aborted_less head.0 site.tables) state bounds (revert_law.revert_sound site.counted site.tables site.area e at way paged.bounds paged.sound owed)
      (numbers_only site.tables (one_aborted_less head.0 site.tables) (aborted_less_same head.0 site.tables)) (drops_same site.area.title)
      (revert_step low engine state paged.shows (versions_in (is_committed_in site.tables) (reverted_at at way site.area)) e (site.area.slot at).key made refl head (drop 1 (chain_of site.area.older (site.area.slot at)))
      (slot_was (is_committed_in site.tables) site.area e at (site.area.slot at).key inside owed.used.0 owed.used.1 refl
      (λ b in_ used key. paged.sound.keys.once e b at (in_, used) owed.used key))
      (λ s session at_s is. aborted_nobodys head.0 owed.gone s session at_s is)
      (revert_law.revert_step site.counted site.tables site.area e at way paged.bounds paged.sound owed number (is_committed_in site.tables) (agree site.tables run.commits)))
      paged.modelled refl refl

  -- ---- Trim

  -- who passes is old to everyone; so he is committed
  old_committed : (passes : ℕ → Bool) → IsOld number low passes → (x : ℕ) → passes x ≡ true → is_committed_in site.tables x ≡ true
  old_committed passes old x is = let its = old x is in sym (agree site.tables run.commits x) ∙ ap is_some its.1

  pub trim_shows : (passes : ℕ → Bool) → IsOld number low passes → (e : ℕ) (at : Place) (way : Trimming) → OwedByTrim passes site.tables site.area e at way → IsInBounds (trimmed_at at way site.area)
      → ShowsPaged low (record site { area = trimmed_at at way site.area }) run state
  trim_shows passes old e at way owed bounds =
      paged_moved low site run state paged (trimmed_at at way site.area) site.tables state bounds (trim_law.trim_sound passes site.counted site.tables site.area e at way paged.bounds paged.sound owed)
      (same_tables site.tables) (drops_same site.area.title)
      (by way (trim_law.trim_step passes site.counted site.tables site.area e at way paged.bounds paged.sound owed (is_committed_in site.tables)))
      paged.modelled refl refl
    where
      new_versions : Trimming → Versions
      new_versions w = versions_in (is_committed_in site.tables) (trimmed_at at w site.area)

      by : (w : Trimming) → RowsSet engine.versions (new_versions w) e (site.area.slot at).key (trimmed_chain w passes (rows_of engine.versions e (site.area.slot at).key))
          → ShowsState low (record engine { versions = new_versions w }) state
      by CutHead set = cut_step low engine state paged.shows (new_versions CutHead) e (site.area.slot at).key passes old set
      by CutPrevious set = cut_step low engine state paged.shows (new_versions CutPrevious) e (site.area.slot at).key passes old set
      by FreeTombstone set = free_step low engine state paged.shows (new_versions FreeTombstone) e (site.area.slot at).key passes old set

  pub cut_shows : (passes : ℕ → Bool) → IsOld number low passes → (e : ℕ) (at q : Place) → OwedByCut passes site.area e at q → IsInBounds (cut_at q site.area)
      → ShowsPaged low (record site { area = cut_at q site.area }) run state
  cut_shows passes old e at q owed bounds =
      paged_moved low site run state paged (cut_at q site.area) site.tables state bounds (entry_law.cut_sound site.counted site.tables site.area q paged.sound)
      (same_tables site.tables) (drops_same site.area.title)
      (cut_step low engine state paged.shows (versions_in (is_committed_in site.tables) (cut_at q site.area)) e (site.area.slot at).key passes old
      (entry_law.cut_step passes site.counted site.tables site.area e at q paged.bounds paged.sound owed (is_committed_in site.tables)))
      paged.modelled refl refl
