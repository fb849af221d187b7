-- The laws of the steps, as functions of engines.
use Rattle.std.proofs.Common.{◌≡◌, ℕ, ◌+◌, ◌<◌, ℤ, false, cond, List, [], ◌∷◌, ◌++◌, length, Option, Some, None, refl, sym, ◌∙◌, ap, subst}
use Rattle.std.specs.Prelude.{unwrap_or}
use Rattle.std.specs.Ordering.{nat_cmp}
use Rattle.std.specs.FinMap.Entries.{find}
use Rattle.std.proofs.lemmas.Bool.{false≢true, ne_eqb}
use Rattle.ctr_model.specs.types_Row.{Row}
use Rattle.ctr_model.specs.declared.state.State.{State}
use Rattle.ctr_model.specs.declared.state.Transaction.{Transaction}
use Rattle.ctr_model.specs.State.{transaction_of, with_transaction}
use Rattle.ctr_versions.specs.Changes.{write, revert, cut, without_tombstone, IsOld}
use Rattle.ctr_versions.specs.Chains.{Numbers, value_seen, written_by}
use Rattle.ctr_versions.specs.Keys.{row_written}
use Rattle.ctr_versions.specs.Xids.{Xids, number_of, below_mark, drawn, aborted}
use Rattle.ctr_versions.specs.Versions.{Made, name_written, names_at, rows_of, RowsSet, NamesSet, IsTableOf, IsUnmadeTable}
use Rattle.ctr_versions.specs.Engine.{SessionHeld, EngineHeld, ShowsSession, ShowsState}
use Rattle.ctr_versions.specs.Steps.{engine_begun, engine_drawn, engine_asked, engine_ended, engine_answered, engine_rolled_back}
use Rattle.ctr_versions.specs.Laws.{sees_found, sees_of, me_found, me_of, IsOpenWriter, with_own, BeginKeeps, DrawKeeps, RowKeeps, NameKeeps, AskKeeps, AnswerKeeps, EndKeeps, RollbackKeeps, CleaningKeeps, IsNobodys, RevertKeeps, RoomKeeps, NameRevertKeeps, DeadKeeps, mark_of, SetsRow, SetsName}
use Rattle.ctr_versions.proofs.Steps.{spent_step, begin_step, draw_step, write_step, ask_step, rollback_step, answer_step, end_step}
use Rattle.ctr_versions.proofs.Reading.{session_moved}
use Rattle.ctr_versions.proofs.Cleaning.{cut_step, free_step, revert_step, name_step}
use Rattle.ctr_versions.proofs.Dead.{dead_step}
use Rattle.ctr_versions.proofs.Undoing.{name_cut_step, name_free_step, name_revert_step}
use Rattle.ctr_versions.proofs.Marks.{marked, marked_old, marked_shows}

-- the session that shows a transaction is the one that is found
theirs_is : (low : ℕ) (engine : EngineHeld) (state : State) (s : ℕ) (t : Transaction) (session : SessionHeld) → ShowsState low engine state → transaction_of state s ≡ Some t → find nat_cmp s engine.sessions ≡ Some session
    → ShowsSession low state.answered engine.xids engine.versions session t
theirs_is low engine state s t session shows at there =
    let one = shows.inside s t at in
    subst (λ (a : SessionHeld). ShowsSession low state.answered engine.xids engine.versions a t) (ap (λ o. unwrap_or o session) (sym one.1 ∙ there)) one.2

pub begin_keeps : (s : ℕ) (engine : EngineHeld) → BeginKeeps s engine (engine_begun s engine)
begin_keeps s engine low state statement shows = begin_step low engine state s shows

pub draw_keeps : (s : ℕ) (engine : EngineHeld) (session : SessionHeld) → find nat_cmp s engine.sessions ≡ Some session → DrawKeeps s engine (engine_drawn s session engine)
draw_keeps s engine session there low state t u shows at unasked unwritten granted =
    draw_step low engine state s session u shows (session_moved low state.answered engine.xids engine.versions session t u granted.snapshot granted.own granted.asked (theirs_is low engine state s t session shows at there))
    (granted.asked ∙ unasked) (granted.own ∙ unwritten)

pub end_keeps : (s : ℕ) (engine : EngineHeld) → EndKeeps s engine (engine_ended s engine)
end_keeps s engine low state t statement shows = (end_step low engine state s shows, end_step low engine state s shows)

pub answer_keeps : (s : ℕ) (engine : EngineHeld) → engine.answered < length engine.xids.commits → AnswerKeeps s engine (engine_answered s engine)
answer_keeps s engine more low state t statement shows =
    answer_step low engine state s shows (subst (λ n. n < length state.asked) shows.same_answered (subst (λ n. engine.answered < n) shows.counted more))

module _ (s : ℕ) (engine : EngineHeld) (writer : IsOpenWriter s engine) where
  me_is : me_of s engine ≡ writer.session.me
  me_is = ap me_found writer.there

  pub row_keeps : (id : ℕ) (key : ℤ) (v : Option Row) (new : EngineHeld) → SetsRow engine new id key (write (number_of engine.xids) (me_of s engine) v (rows_of engine.versions id key)) → RowKeeps s id key v engine new
  row_keeps id key v new sets low state t table shows at unasked on free =
      subst (λ (e : EngineHeld). ShowsState low e (with_transaction s (with_own (row_written table key v) t) state)) (sym sets.rest)
      (write_step low engine state s writer.session t shows writer.there (theirs_is low engine state s t writer.session shows at writer.there) unasked writer.positive new.versions table id key v
      (subst (λ m. RowsSet engine.versions new.versions id key (write (number_of engine.xids) m v (rows_of engine.versions id key))) me_is sets.set)
      (subst (λ m. IsTableOf (number_of engine.xids) engine.versions m t.snapshot table id) me_is on) free)

  pub name_keeps : (name : List ℕ) (v : Option Made) (new : EngineHeld) → SetsName engine new name (write (number_of engine.xids) (me_of s engine) v (names_at engine.versions name))
      → ((made : Made) → v ≡ Some made → IsUnmadeTable made.id engine.versions) → NameKeeps s name v engine new
  name_keeps name v new sets unmade low state t shows at unasked free =
      subst (λ (e : EngineHeld). ShowsState low e (with_transaction s (with_own (name_written name v) t) state)) (sym sets.rest)
      (name_step low engine state s writer.session t shows writer.there (theirs_is low engine state s t writer.session shows at writer.there) unasked writer.positive new.versions name v
      (subst (λ m. NamesSet engine.versions new.versions name (write (number_of engine.xids) m v (names_at engine.versions name))) me_is sets.set)
      (λ made key is. (unmade made is).rows key) (λ made j is at. (unmade made is).names name made _ at refl) free)

  pub ask_keeps : AskKeeps s engine (engine_asked (me_of s engine) engine)
  ask_keeps low state t statement shows at unasked untouched =
      subst (λ m. ShowsState low (engine_asked m engine) (with_transaction s (record t { asked = Some (length state.asked + 1) }) (record state { asked = state.asked ++ t.own ∷ [] }))) (sym me_is)
      (ask_step low engine state s writer.session t shows writer.there (theirs_is low engine state s t writer.session shows at writer.there) unasked writer.positive writer.calm untouched)

  pub rollback_keeps : RollbackKeeps s engine (engine_rolled_back s (me_of s engine) engine)
  rollback_keeps low state t statement shows at unasked =
      subst (λ m. ShowsState low (engine_rolled_back s m engine) _) (sym me_is)
      (rollback_step low engine state s writer.session t shows writer.there (theirs_is low engine state s t writer.session shows at writer.there) unasked writer.positive)

-- ---- the cleaner

module _ (engine new : EngineHeld) where
  pub cut_keeps : (id : ℕ) (key : ℤ) → SetsRow engine new id key (cut (below_mark engine.xids (mark_of engine)) (rows_of engine.versions id key)) → CleaningKeeps engine new
  cut_keeps id key sets low state shows = (
    marked low engine state shows,
    subst (λ (e : EngineHeld). ShowsState (marked low engine state shows) e state) (sym sets.rest)
        (cut_step (marked low engine state shows) engine state (marked_shows low engine state shows) new.versions id key (below_mark engine.xids (mark_of engine)) (marked_old low engine state shows) sets.set),
  )

  pub free_keeps : (id : ℕ) (key : ℤ) → SetsRow engine new id key (without_tombstone (below_mark engine.xids (mark_of engine)) (rows_of engine.versions id key)) → CleaningKeeps engine new
  free_keeps id key sets low state shows = (
    marked low engine state shows,
    subst (λ (e : EngineHeld). ShowsState (marked low engine state shows) e state) (sym sets.rest)
        (free_step (marked low engine state shows) engine state (marked_shows low engine state shows) new.versions id key (below_mark engine.xids (mark_of engine)) (marked_old low engine state shows) sets.set),
  )

  pub name_cut_keeps : (name : List ℕ) → SetsName engine new name (cut (below_mark engine.xids (mark_of engine)) (names_at engine.versions name)) → CleaningKeeps engine new
  name_cut_keeps name sets low state shows = (
    marked low engine state shows,
    subst (λ (e : EngineHeld). ShowsState (marked low engine state shows) e state) (sym sets.rest)
        (name_cut_step (marked low engine state shows) engine state (marked_shows low engine state shows) new.versions name (below_mark engine.xids (mark_of engine)) (marked_old low engine state shows) sets.set),
  )

  pub name_free_keeps : (name : List ℕ) → SetsName engine new name (without_tombstone (below_mark engine.xids (mark_of engine)) (names_at engine.versions name)) → CleaningKeeps engine new
  name_free_keeps name sets low state shows = (
    marked low engine state shows,
    subst (λ (e : EngineHeld). ShowsState (marked low engine state shows) e state) (sym sets.rest)
        (name_free_step (marked low engine state shows) engine state (marked_shows low engine state shows) new.versions name (below_mark engine.xids (mark_of engine)) (marked_old low engine state shows) sets.set),
  )

  pub revert_keeps : (id : ℕ) (key : ℤ) → SetsRow engine new id key (revert (number_of engine.xids) (rows_of engine.versions id key)) → RevertKeeps id key engine new
  revert_keeps id key sets low state made named shows nobodys = subst (λ (e : EngineHeld). ShowsState low e state) (sym sets.rest) (by_chain (rows_of engine.versions id key) refl nobodys)
    where
      by_chain : (chain : List (ℕ × Option Row)) → rows_of engine.versions id key ≡ chain → IsNobodys engine chain → ShowsState low (record engine { versions = new.versions }) state
      by_chain [] is none = cut_step low engine state shows new.versions id key (λ x. false) (λ x never. absurd (false≢true never))
          (subst (RowsSet engine.versions new.versions id key) (ap (revert (number_of engine.xids)) is ∙ sym (ap (cut (λ x. false)) is)) sets.set)
      by_chain (h ∷ rest) is none = revert_step low engine state shows new.versions id key made named h rest is none sets.set

-- ---- the same, where the engine that is left is known by an equation

pub begin_left : (s : ℕ) (old new : EngineHeld) → new ≡ engine_begun s old → BeginKeeps s old new
begin_left s old new is = subst (λ (e : EngineHeld). BeginKeeps s old e) (sym is) (begin_keeps s old)

pub draw_left : (s : ℕ) (old new : EngineHeld) (session : SessionHeld) → find nat_cmp s old.sessions ≡ Some session → new ≡ engine_drawn s session old → DrawKeeps s old new
draw_left s old new session there is = subst (λ (e : EngineHeld). DrawKeeps s old e) (sym is) (draw_keeps s old session there)

pub end_left : (s : ℕ) (old new : EngineHeld) → new ≡ engine_ended s old → EndKeeps s old new
end_left s old new is = subst (λ (e : EngineHeld). EndKeeps s old e) (sym is) (end_keeps s old)

pub answer_left : (s : ℕ) (old new : EngineHeld) → old.answered < length old.xids.commits → new ≡ engine_answered s old → AnswerKeeps s old new
answer_left s old new more is = subst (λ (e : EngineHeld). AnswerKeeps s old e) (sym is) (answer_keeps s old more)

pub ask_left : (s : ℕ) (old new : EngineHeld) → IsOpenWriter s old → new ≡ engine_asked (me_of s old) old → AskKeeps s old new
ask_left s old new writer is = subst (λ (e : EngineHeld). AskKeeps s old e) (sym is) (ask_keeps s old writer)

pub rollback_left : (s : ℕ) (old new : EngineHeld) → IsOpenWriter s old → new ≡ engine_rolled_back s (me_of s old) old → RollbackKeeps s old new
rollback_left s old new writer is = subst (λ (e : EngineHeld). RollbackKeeps s old e) (sym is) (rollback_keeps s old writer)

-- ---- room, names that are undone, and dead tables

cut_nothing : {V : Type 0} (chain : List (ℕ × Option V)) → cut (λ x. false) chain ≡ chain
cut_nothing [] = refl
cut_nothing (v ∷ vs) = ap (λ rest. v ∷ rest) (cut_nothing vs)

never_old : (number : Numbers) (low : ℕ) → IsOld number low (λ x. false)
never_old number low x never = absurd (false≢true never)

module _ (engine new : EngineHeld) where
  pub row_room_keeps : (id : ℕ) (key : ℤ) → SetsRow engine new id key (rows_of engine.versions id key) → RoomKeeps engine new
  row_room_keeps id key sets low state shows = subst (λ (e : EngineHeld). ShowsState low e state) (sym sets.rest)
      (cut_step low engine state shows new.versions id key (λ x. false) (never_old (number_of engine.xids) low) (subst (RowsSet engine.versions new.versions id key) (sym (cut_nothing (rows_of engine.versions id key))) sets.set))

  pub name_room_keeps : (name : List ℕ) → SetsName engine new name (names_at engine.versions name) → RoomKeeps engine new
  name_room_keeps name sets low state shows = subst (λ (e : EngineHeld). ShowsState low e state) (sym sets.rest)
      (name_cut_step low engine state shows new.versions name (λ x. false) (never_old (number_of engine.xids) low) (subst (NamesSet engine.versions new.versions name) (sym (cut_nothing (names_at engine.versions name))) sets.set))

  unwritten : {V : Type 0} (chain : List (ℕ × Option V)) → IsNobodys engine chain → (s : ℕ) (session : SessionHeld) → find nat_cmp s engine.sessions ≡ Some session → written_by session.me chain ≡ None
  unwritten [] nobodys s session at = refl
  unwritten (h ∷ rest) nobodys s session at = ap (λ b. cond b (Some h.1) None) (ne_eqb session.me h.0 (nobodys s session at))

  pub name_revert_keeps : (name : List ℕ) → SetsName engine new name (revert (number_of engine.xids) (names_at engine.versions name)) → NameRevertKeeps name engine new
  name_revert_keeps name sets low state shows nobodys = subst (λ (e : EngineHeld). ShowsState low e state) (sym sets.rest)
      (name_revert_step low engine state shows new.versions name (λ x working. subst (λ y. written_by y (names_at engine.versions name) ≡ None) working.me (unwritten (names_at engine.versions name) nobodys working.s working.session working.there)) sets.set)

  pub dead_keeps : (id : ℕ) (key : ℤ) → SetsRow engine new id key [] → DeadKeeps id key engine new
  dead_keeps id key sets low state shows dead nobodys = subst (λ (e : EngineHeld). ShowsState low e state) (sym sets.rest)
      (dead_step low engine state shows new.versions id key sets.set dead (λ s session at none. unwritten (rows_of engine.versions id key) nobodys s session at))

pub spent_left : (old new : EngineHeld) → new ≡ record old { xids = aborted old.xids.next (drawn old.xids) } → RoomKeeps old new
spent_left old new is low state shows = subst (λ (e : EngineHeld). ShowsState low e state) (sym is) (spent_step low old state shows)

pub same_left : (old new : EngineHeld) → new ≡ old → RoomKeeps old new
same_left old new is low state shows = subst (λ (e : EngineHeld). ShowsState low e state) (sym is) shows

-- where there is no session nothing is seen
blind : {V : Type 0} (xids : Xids) (chain : List (ℕ × Option V)) → None ≡ value_seen (sees_found xids None) chain
blind xids [] = refl
blind xids (v ∷ vs) = blind xids vs

pub unseen : {V : Type 0} (s : ℕ) (engine : EngineHeld) (chain : List (ℕ × Option V)) → None ≡ find nat_cmp s engine.sessions → None ≡ value_seen (sees_of s engine) chain
unseen s engine chain none = subst (λ o. None ≡ value_seen (sees_found engine.xids o) chain) none (blind engine.xids chain)
