-- The steps of the cleaner, and those that make or drop a table, keep the invariant.
use Rattle.std.proofs.Common.{◌≡◌, ℕ, ◌≤◌, ◌<◌, ◌==◌, ℤ, Bool, true, false, cond, List, [], ◌∷◌, ◌++◌, Option, Some, None, sym, ◌∙◌, ap, subst}
use Rattle.std.specs.Prelude.{nat_lt}
use Rattle.std.specs.List.{AllByRecursion}
use Rattle.std.specs.Ordering.{nat_cmp}
use Rattle.std.specs.FinMap.Entries.{find, put}
use Rattle.std.proofs.lemmas.Bool.{ne_eqb, ltb-true, and_parts}
use Rattle.ctr_model.specs.types_Row.{Row}
use Rattle.ctr_model.specs.declared.state.State.{State}
use Rattle.ctr_model.specs.declared.state.Transaction.{Transaction}
use Rattle.ctr_model.specs.State.{with_transaction}
use Rattle.ctr_versions.specs.Chains.{value_seen, by, written_by, Behind}
use Rattle.ctr_versions.specs.Xids.{below_mark, Xids, place_from, has_committed, number_of, IsSnapshotOf}
use Rattle.ctr_snap.specs.Seeing.{SnapshotTaken, AreFrom, named}
use Rattle.ctr_versions.specs.Changes.{write, revert, cut, without_tombstone, IsOld}
use Rattle.ctr_versions.specs.Versions.{name_written, Made, Versions, names_at, rows_of, VersionsStand, RowsSet, NamesSet}
use Rattle.ctr_versions.specs.Engine.{SessionHeld, EngineHeld, IsBy, AreBy, IsDrawn, IsSeenIfOld, IsCalm, ShowsSession, ShowsState}
use Rattle.ctr_versions.proofs.Xids.{low_number}
use Rattle.ctr_versions.proofs.Changes.{write_all, cut_written, freed_written, revert_others, cut_alone, freed_alone, revert_all, cut_all, freed_all}
use Rattle.ctr_versions.proofs.Engine.{raised_stands}
use Rattle.ctr_versions.proofs.By.{rows_by, names_by}
use Rattle.ctr_versions.proofs.Written.{set_wrote, revert_stands, cut_stands, freed_stands}
use Rattle.ctr_versions.proofs.Catalog.{names_stand, names_wrote, names_others}
use Rattle.ctr_versions.proofs.Steps.{set_versions, same_session, inside_same, not_mine, not_old, open_none}

-- ---- the low mark

-- who passes has a number, and is below
pub below_number : (xids : Xids) (mark x : ℕ) → below_mark xids mark x ≡ true → (k : ℕ) × (number_of xids x ≡ Some k) × (x < mark)
below_number xids mark x passes =
    let parts = and_parts (has_committed xids x) (nat_lt x mark) passes in
    (place_from 1 x xids.commits, ap (λ b. cond b (Some (place_from 1 x xids.commits)) None) parts.0, ltb-true x mark parts.1)

pub mark_is_old : (xids : Xids) (s : SnapshotTaken) (n mark : ℕ) → IsSnapshotOf xids s n → AreFrom mark (named s) → IsOld (number_of xids) n (below_mark xids mark)
mark_is_old xids s n mark is low x passes =
    let parts = and_parts (has_committed xids x) (nat_lt x mark) passes in
    let number : number_of xids x ≡ Some (place_from 1 x xids.commits) = ap (λ b. cond b (Some (place_from 1 x xids.commits)) None) parts.0 in
    (place_from 1 x xids.commits, number, low_number xids s n mark x (place_from 1 x xids.commits) is low number (ltb-true x mark parts.1))

-- ---- the low number rises to one that no snapshot is below

pub raise_step : (low higher : ℕ) (engine : EngineHeld) (state : State) → low ≤ higher → higher ≤ state.answered → (shows : ShowsState low engine state)
    → ((s : ℕ) (t : Transaction) (at : find nat_cmp s state.sessions ≡ Some t) → (shows.inside s t at).0.undoing ≡ false → higher ≤ t.snapshot) → ShowsState higher engine state
raise_step low higher engine state le lowest shows each = record {
  sound = shows.sound;
  counted = shows.counted;
  same_answered = shows.same_answered;
  answered = shows.answered;
  lowest = lowest;
  stands = raised_stands low higher (number_of engine.xids) state engine.versions le shows.stands;
  drawn = shows.drawn;
  inside = λ s t at. let old = shows.inside s t at in (old.0, old.1, record { snapshot = old.2.snapshot; old = old.2.old; from = each s t at; to = old.2.to; wrote = old.2.wrote; live = old.2.live; asked = old.2.asked });
  below = shows.below;
  apart = shows.apart;
}

-- ---- the cleaner

module _ (low : ℕ) (engine : EngineHeld) (state : State) (shows : ShowsState low engine state) (new : Versions) (id : ℕ) (key : ℤ) where
  -- a chain gives way to one that shows the same, to the sessions too, and has no version that wasn't there
  pub clean_step : (chain : List (ℕ × Option Row)) → RowsSet engine.versions new id key chain → VersionsStand low (number_of engine.xids) state.base state.asked new → ((P : ℕ → Type 0) → AllByRecursion (IsBy P) (rows_of engine.versions id key) → AllByRecursion (IsBy P) chain)
      → ((s : ℕ) (session : SessionHeld) → find nat_cmp s engine.sessions ≡ Some session → number_of engine.xids session.me ≡ None → written_by session.me chain ≡ written_by session.me (rows_of engine.versions id key))
      → ((s : ℕ) (session : SessionHeld) → find nat_cmp s engine.sessions ≡ Some session → number_of engine.xids session.me ≡ None → AllByRecursion (λ (v : ℕ × Option Row). v.0 ≡ session.me) (rows_of engine.versions id key) → rows_of engine.versions id key ≡ chain)
      → ShowsState low (record engine { versions = new }) state
  clean_step chain set stands fewer same alone =
      let kept : (P : ℕ → Type 0) → AreBy P engine.versions → AreBy P new = λ P are. rows_by P engine.versions new id key chain set (fewer P (are.rows id key)) are in
      set_versions low engine state shows new state.sessions stands (kept (IsDrawn engine.xids.next) shows.drawn)
      (λ s t at. let old = shows.inside s t at in (
        old.0,
        old.1,
        same_session low state.answered engine.xids engine.versions new old.0 t (kept (IsSeenIfOld engine.xids old.0.snapshot) old.2.old)
            (λ calm wrote. set_wrote low (number_of engine.xids) state engine.versions new id key chain set old.0.me t.snapshot t.own wrote (same s old.0 old.1 wrote.is_open)
            (λ name made is one. alone s old.0 old.1 wrote.is_open (subst (λ i. AllByRecursion (λ (v : ℕ × Option Row). v.0 ≡ old.0.me) (rows_of engine.versions i key)) one ((wrote.created name made key is).0)))) old.2,
      ))

  -- what stands behind a version that everyone sees is cut off
  pub cut_step : (passes : ℕ → Bool) → IsOld (number_of engine.xids) low passes → RowsSet engine.versions new id key (cut passes (rows_of engine.versions id key)) → ShowsState low (record engine { versions = new }) state
  cut_step passes is_old set = clean_step (cut passes (rows_of engine.versions id key)) set (cut_stands low (number_of engine.xids) state engine.versions new id key shows.stands passes is_old set)
      (λ P all. cut_all (IsBy P) passes (rows_of engine.versions id key) all)
      (λ s session at none. cut_written (number_of engine.xids) low passes is_old session.me (rows_of engine.versions id key))
      (λ s session at none all. sym (cut_alone (number_of engine.xids) low passes is_old session.me none (rows_of engine.versions id key) all))

  -- a tombstone that everyone sees is taken away
  pub free_step : (passes : ℕ → Bool) → IsOld (number_of engine.xids) low passes → RowsSet engine.versions new id key (without_tombstone passes (rows_of engine.versions id key)) → ShowsState low (record engine { versions = new }) state
  free_step passes is_old set = clean_step (without_tombstone passes (rows_of engine.versions id key)) set (freed_stands low (number_of engine.xids) state engine.versions new id key shows.stands passes is_old set)
      (λ P all. freed_all (IsBy P) passes (rows_of engine.versions id key) all)
      (λ s session at none. freed_written (number_of engine.xids) low passes is_old session.me none (rows_of engine.versions id key))
      (λ s session at none all. sym (freed_alone (number_of engine.xids) low passes is_old session.me none (rows_of engine.versions id key) all))

  -- a head of a transaction that isn't committed, and is no session's, gives way
  pub revert_step : (made : Made) → made.id ≡ id → (h : ℕ × Option Row) (rest : List (ℕ × Option Row)) → rows_of engine.versions id key ≡ h ∷ rest → ((s : ℕ) (session : SessionHeld) → find nat_cmp s engine.sessions ≡ Some session → session.me ≡ h.0 → ⊥)
      → RowsSet engine.versions new id key (revert (number_of engine.xids) (rows_of engine.versions id key)) → ShowsState low (record engine { versions = new }) state
  revert_step made named h rest is free set =
      let number = number_of engine.xids in
      let behind : Behind number (rows_of engine.versions id key) = subst (λ i. Behind number (rows_of engine.versions i key)) named ((shows.stands.rows [] made key).behind) in
      let unwritten : (s : ℕ) (session : SessionHeld) → find nat_cmp s engine.sessions ≡ Some session → written_by session.me (rows_of engine.versions id key) ≡ None
      = λ s session at. ap (written_by session.me) is ∙ ap (λ b. cond b (Some h.1) None) (ne_eqb session.me h.0 (free s session at)) in
      clean_step (revert number (rows_of engine.versions id key)) set (revert_stands low number state engine.versions new id key shows.stands set)
      (λ P all. revert_all (IsBy P) number (rows_of engine.versions id key) all)
      (λ s session at none. revert_others number session.me (rows_of engine.versions id key) none behind (unwritten s session at) ∙ sym (unwritten s session at))
      (λ s session at none all. absurd (free s session at (sym ((subst (λ c. AllByRecursion (λ (v : ℕ × Option Row). v.0 ≡ session.me) c) is all).0))))

-- ---- a table is made or dropped

module _ (low : ℕ) (engine : EngineHeld) (state : State) (s : ℕ) (session : SessionHeld) (t : Transaction) (shows : ShowsState low engine state) (at_s : find nat_cmp s engine.sessions ≡ Some session)
    (theirs : ShowsSession low state.answered engine.xids engine.versions session t) (unasked : t.asked ≡ None) (positive : 0 < session.me) where
  -- v is the table that is made, or none where it is dropped; nobody else has made or dropped one of the name
  pub name_step : (new : Versions) (name : List ℕ) (v : Option Made) → NamesSet engine.versions new name (write (number_of engine.xids) session.me v (names_at engine.versions name))
      → ((made : Made) (key : ℤ) → v ≡ Some made → rows_of engine.versions made.id key ≡ []) → ((made : Made) (j : ℕ) → v ≡ Some made → value_seen (by (number_of engine.xids) j) (names_at engine.versions name) ≡ Some made → ⊥)
      → ((r : ℕ) (u : Transaction) (b : SessionHeld) → (r == s) ≡ false → find nat_cmp r state.sessions ≡ Some u → find nat_cmp r engine.sessions ≡ Some b → IsCalm b u → written_by b.me (names_at engine.versions name) ≡ None)
      → ShowsState low (record engine { versions = new }) (with_transaction s (record t { own = t.own ++ name_written name v ∷ [] }) state)
  name_step new name v set empty unseen free =
      let number = number_of engine.xids in
      let none = open_none low engine state s session t shows at_s theirs unasked positive in
      let chain = write number session.me v (names_at engine.versions name) in
      let written : Transaction = record t { own = t.own ++ name_written name v ∷ [] } in
      let kept : (P : ℕ → Type 0) → P session.me → AreBy P engine.versions → AreBy P new = λ P here are. names_by P engine.versions new name chain set (write_all (IsBy P) number session.me v (names_at engine.versions name) here (are.names name)) are in
      let seen : (snapshot : SnapshotTaken) → AreBy (IsSeenIfOld engine.xids snapshot) engine.versions → AreBy (IsSeenIfOld engine.xids snapshot) new
      = λ snapshot all. kept (IsSeenIfOld engine.xids snapshot) (not_old low engine state s session t shows at_s theirs unasked positive snapshot) all in
      let mine : ShowsSession low state.answered engine.xids new session written = record {
        snapshot = theirs.snapshot;
        old = seen session.snapshot theirs.old;
        from = theirs.from;
        to = theirs.to;
        wrote = λ unasked. names_wrote low number state engine.versions new name session.me v none set t.snapshot t.own (theirs.wrote unasked) empty unseen;
        live = theirs.live;
        asked = theirs.asked;
      } in
      set_versions low engine state shows new (put nat_cmp s written state.sessions) (names_stand low number state engine.versions new name session.me v none set shows.stands)
      (kept (IsDrawn engine.xids.next) (positive, shows.below s session at_s) shows.drawn)
      (inside_same low low state.answered state.answered engine.xids engine.xids engine.versions new state.sessions engine.sessions s shows.inside
      (λ r u b apart at_r at_b other. same_session low state.answered engine.xids engine.versions new b u (seen b.snapshot other.old)
      (λ calm wrote. names_others low number state engine.versions new name session.me v none set b.me u.snapshot u.own (not_mine low engine state s session t shows at_s theirs unasked positive r b apart at_b) (free r u b apart at_r at_b calm) wrote) other)
      written session at_s mine)
