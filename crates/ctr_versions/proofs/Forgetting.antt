-- A transaction that was rolled back is forgotten, where no version is by it.
use Rattle.std.proofs.Common.{◌≡◌, ℕ, zero, suc, ◌<◌, true, List, [], ◌∷◌, Option, None, refl, sym, ◌∙◌, ap, subst, arith}
use Rattle.std.specs.Prelude.{is_some}
use Rattle.std.specs.List.{AllByRecursion}
use Rattle.std.proofs.lemmas.Bool.{false≢true}
use Rattle.ctr_model.specs.declared.database.Change.{Change}
use Rattle.ctr_model.specs.declared.state.State.{State}
use Rattle.ctr_model.specs.declared.state.Transaction.{Transaction}
use Rattle.ctr_model.specs.Database.{table_at}
use Rattle.ctr_model.specs.Refusals.{row_of}
use Rattle.ctr_snap.specs.Seeing.{has}
use Rattle.ctr_versions.specs.Chains.{Numbers, value_seen, by}
use Rattle.ctr_versions.specs.Keys.{schema_writes, row_writes, schema_named}
use Rattle.ctr_versions.specs.Xids.{Xids, number_of, forgotten}
use Rattle.ctr_versions.specs.Versions.{Made, Versions, names_at, rows_of, schemas, IsTableAt, IsTableSince, IsFrom, VersionsStand, Wrote}
use Rattle.ctr_versions.specs.Engine.{SessionHeld, EngineHeld, IsBy, AreBy, IsSeenIfOld, ShowsSession, ShowsState}
use Rattle.ctr_versions.specs.Steps.{engine_forgotten}
use Rattle.ctr_versions.specs.Laws.{RoomKeeps}
use Rattle.ctr_versions.proofs.Chains.{narrowed, renumbered, seen_alike, by_alike}
use Rattle.ctr_versions.proofs.Xids.{aborted_bounds, aborted_none, forgotten_apart, forgotten_snapshots, forgotten_sound}
use Rattle.ctr_versions.proofs.By.{by_mapped, by_both}

-- the chain of schemas is by the same transactions
schemas_by : (P : ℕ → Type 0) (chain : List (ℕ × Option Made)) → AllByRecursion (IsBy P) chain → AllByRecursion (IsBy P) (schemas chain)
schemas_by P [] all = tt
schemas_by P (v ∷ vs) all = (all.0, schemas_by P vs all.1)

-- ---- other numbers, the same on those by which versions are

module _ (low : ℕ) (number other : Numbers) (state : State) (versions : Versions) (same : AreBy (λ x. other x ≡ number x) versions) where
  names_alike : (name : List ℕ) (j : ℕ) → value_seen (by other j) (names_at versions name) ≡ value_seen (by number j) (names_at versions name)
  names_alike name j = seen_alike (by number j) (by other j) (names_at versions name) (by_alike number other j (names_at versions name) (same.names name))

  pub alike_stands : VersionsStand low number state.base state.asked versions → VersionsStand low other state.base state.asked versions
  alike_stands stands = record {
    sorted = stands.sorted;
    slots_sorted = stands.slots_sorted;
    tables = λ name. renumbered (IsFrom low) (IsFrom low) number (schema_named state.base name) (schema_writes name state.asked) other (schemas (names_at versions name)) (schemas_by (λ x. other x ≡ number x) (names_at versions name) (same.names name)) (stands.tables name);
    rows = λ name made key. narrowed (IsTableAt low number versions name made) (IsTableSince low number versions name made) other (row_of (table_at state.base name) key) (row_writes name key state.asked)
        (IsTableAt low other versions name made) (IsTableSince low other versions name made) (rows_of versions made.id key)
        (λ j at. (at.0, sym (names_alike name j) ∙ at.1)) (λ n since. (since.0, λ j le. sym (names_alike name j) ∙ since.1 j le))
        (renumbered (IsTableAt low number versions name made) (IsTableSince low number versions name made) number (row_of (table_at state.base name) key) (row_writes name key state.asked) other (rows_of versions made.id key) (same.rows made.id key) (stands.rows name made key));
  }

  pub alike_wrote : (me n : ℕ) (own : List Change) → other me ≡ number me → Wrote number versions me n own → Wrote other versions me n own
  alike_wrote me n own mine wrote = record {
    is_open = mine ∙ wrote.is_open;
    tables = wrote.tables;
    rows = λ name made key j le is at. wrote.rows name made key j le is (sym (names_alike name j) ∙ at);
    created = wrote.created;
    fresh = λ name made j is at. wrote.fresh name made j is (sym (names_alike name j) ∙ at);
  }

-- ---- the engine

module _ (low : ℕ) (engine : EngineHeld) (state : State) (x : ℕ) (shows : ShowsState low engine state) (is_aborted : has x engine.xids.aborted ≡ true) (unused : AreBy (λ y. y ≡ x → ⊥) engine.versions) where
  abbrev xids : Xids
  xids = engine.xids

  abbrev new : Xids
  new = forgotten x engine.xids

  numbers : (y : ℕ) → (y ≡ x → ⊥) → number_of new y ≡ number_of xids y
  numbers = forgotten_apart xids shows.sound x is_aborted

  -- a session that shows a transaction isn't the forgotten one
  other_me : (session : SessionHeld) (t : Transaction) → ShowsSession low state.answered xids engine.versions session t → t.asked ≡ None → session.me ≡ x → ⊥
  other_me session t theirs unasked same = by_number session.me refl
    where
      by_number : (m : ℕ) → session.me ≡ m → ⊥
      by_number zero is = zero_live (aborted_positive)
        where
          aborted_positive : 0 < x
          aborted_positive = (aborted_bounds xids shows.sound x is_aborted).0

          zero_live : 0 < x → ⊥
          zero_live lt = omega (arith, lt, same, is)
      by_number (suc m) is = false≢true (sym ((shows.sound.apart session.me (theirs.live unasked (positive m is))).1) ∙ ap (λ z. has z xids.aborted) same ∙ is_aborted)
        where
          positive : (m : ℕ) → session.me ≡ suc m → 0 < session.me
          positive m is = omega (arith, is)

  pub forget_step : ShowsState low (engine_forgotten x engine) state
  forget_step = record {
    sound = forgotten_sound xids shows.sound x is_aborted;
    counted = shows.counted;
    same_answered = shows.same_answered;
    answered = shows.answered;
    lowest = shows.lowest;
    stands = alike_stands low (number_of xids) (number_of new) state engine.versions (by_mapped (λ y. y ≡ x → ⊥) (λ y. number_of new y ≡ number_of xids y) numbers engine.versions unused) shows.stands;
    drawn = shows.drawn;
    inside = λ s t at. let old = shows.inside s t at in (
      old.0,
      old.1,
      record {
        snapshot = forgotten_snapshots xids shows.sound x is_aborted old.0.snapshot t.snapshot old.2.snapshot;
        old = by_mapped (λ y. (y ≡ x → ⊥) × IsSeenIfOld xids old.0.snapshot y) (IsSeenIfOld new old.0.snapshot) (λ y both is. both.1 (sym (numbers y both.0) ∙ is)) engine.versions
            (by_both (λ y. y ≡ x → ⊥) (IsSeenIfOld xids old.0.snapshot) engine.versions unused old.2.old);
        from = old.2.from;
        to = old.2.to;
        wrote = λ calm. alike_wrote low (number_of xids) (number_of new) state engine.versions (by_mapped (λ y. y ≡ x → ⊥) (λ y. number_of new y ≡ number_of xids y) numbers engine.versions unused) old.0.me t.snapshot t.own
            (numbers old.0.me (other_me old.0 t old.2 calm.0)) (old.2.wrote calm);
        live = old.2.live;
        asked = λ k e. numbers old.0.me (λ same. false≢true (ap is_some (sym (aborted_none xids shows.sound x is_aborted) ∙ sym (ap (number_of xids) same) ∙ old.2.asked k e))) ∙ old.2.asked k e;
      },
    );
    below = shows.below;
    apart = shows.apart;
  }

pub forget_left : (x : ℕ) (old left : EngineHeld) → has x old.xids.aborted ≡ true → AreBy (λ y. y ≡ x → ⊥) old.versions → left ≡ engine_forgotten x old → RoomKeeps old left
forget_left x old left is_aborted unused is low state shows = subst (λ (e : EngineHeld). ShowsState low e state) (sym is) (forget_step low old state x shows is_aborted unused)
