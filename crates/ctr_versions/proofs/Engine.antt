-- What the invariant gives, and what keeps it.
use Rattle.std.proofs.Common.{◌≡◌, ℕ, zero, suc, ◌≤◌, ◌<◌, ◌==◌, cond, List, [], ◌∷◌, Option, Some, None, refl, sym, ◌∙◌, ap, subst, arith}
use Rattle.std.specs.Prelude.{is_some, unwrap_or, ◌||◌}
use Rattle.std.specs.Option.{option_or, option_map}
use Rattle.std.specs.List.{AllByRecursion}
use Rattle.std.proofs.lemmas.Bool.{false≢true, ne_eqb, le-leb, and_from}
use Rattle.ctr_model.specs.types_Row.{Row}
use Rattle.ctr_snap.specs.types_Schema.{Schema}
use Rattle.ctr_model.specs.declared.database.Change.{Change}
use Rattle.ctr_model.specs.declared.state.State.{State}
use Rattle.ctr_model.specs.declared.state.Transaction.{Transaction}
use Rattle.ctr_model.specs.Database.{table_at}
use Rattle.ctr_model.specs.State.{rows_at, view}
use Rattle.ctr_model.specs.Refusals.{row_of}
use Rattle.ctr_versions.specs.Chains.{Numbers, value_seen, is_by, by, by_or_own, above, value_at_number, changed_since, written_by, ShowsKey}
use Rattle.ctr_versions.specs.Keys.{schema_writes, row_writes, schema_named}
use Rattle.ctr_snap.specs.Seeing.{sees}
use Rattle.ctr_versions.specs.Xids.{Xids, fate_of, has_committed, number_of, is_before, IsSnapshotOf}
use Rattle.ctr_versions.specs.Versions.{Made, Versions, names_at, rows_of, schemas, database_seen, IsTableAt, IsTableSince, IsFrom, VersionsStand, Wrote, IsOrdered}
use Rattle.ctr_versions.specs.Engine.{SessionHeld, EngineHeld, session_sees, IsBy, AreBy, IsDrawn, IsSeenIfOld, IsCalm, ShowsSession, ShowsState}
use Rattle.ctr_versions.proofs.Chains.{narrowed, not_above, seen_alike}
use Rattle.ctr_versions.proofs.By.{all_mapped_by}
use Rattle.ctr_versions.proofs.Xids.{sees_is, number_committed}
use Rattle.ctr_versions.proofs.Versions.{world_shows, view_shown}

-- ---- reading

-- a session's own test is that of its number and its own, on those by which versions are
module _ (xids : Xids) (session : SessionHeld) (n : ℕ) (is : IsSnapshotOf xids session.snapshot n) where
  sees_alike : (x : ℕ) (o : Option ℕ) → number_of xids x ≡ o → IsSeenIfOld xids session.snapshot x → sees session.snapshot (fate_of xids x) x ≡ by (number_of xids) n x
  sees_alike x None at old = is.sees_by x (λ e. false≢true (ap is_some (sym at ∙ e)))
  sees_alike x (Some zero) at old =
      sees_is xids session.snapshot x ∙ and_from (has_committed xids x) (is_before session.snapshot x) (number_committed xids x 0 at) (old at)
      ∙ sym (ap (is_by n) at ∙ le-leb 0 n (omega arith))
  sees_alike x (Some (suc k)) at old = is.sees_by x (λ e. later k (ap (λ o. unwrap_or o 0) (sym at ∙ e)))
    where
      later : (k : ℕ) → suc k ≡ 0 → ⊥
      later k same = omega (arith, same)

  pub session_alike : {V : Type 0} (chain : List (ℕ × Option V)) → AllByRecursion (IsBy (IsSeenIfOld xids session.snapshot)) chain → value_seen (session_sees xids session) chain ≡ value_seen (by_or_own (number_of xids) n session.me) chain
  session_alike chain old = seen_alike (by_or_own (number_of xids) n session.me) (session_sees xids session) chain
      (all_mapped_by (IsSeenIfOld xids session.snapshot) (λ x. session_sees xids session x ≡ by_or_own (number_of xids) n session.me x) (λ x before. ap (λ b. (x == session.me) || b) (sees_alike x (number_of xids x) refl before)) chain old)

-- a session's own test shows its view
pub session_shows : (low : ℕ) (engine : EngineHeld) (state : State) (session : SessionHeld) (t : Transaction) → IsOrdered state.base → ShowsState low engine state
    → ShowsSession low state.answered engine.xids engine.versions session t → IsCalm session t → database_seen (session_sees engine.xids session) engine.versions ≡ view state t
session_shows low engine state session t ordered shows mine unasked =
    view_shown low (number_of engine.xids) state engine.versions ordered shows.stands session.me t.snapshot t.own (mine.from unasked.1) (mine.wrote unasked) (session_sees engine.xids session)
    (λ name. session_alike engine.xids session t.snapshot mine.snapshot (names_at engine.versions name) (mine.old.names name))
    (λ id key. session_alike engine.xids session t.snapshot mine.snapshot (rows_of engine.versions id key) (mine.old.rows id key))

-- what recovery or a report reads: the rows of all that asked, or of those that are answered
pub engine_shows : (low : ℕ) (engine : EngineHeld) (state : State) (j : ℕ) → IsOrdered state.base → ShowsState low engine state → low ≤ j → database_seen (by (number_of engine.xids) j) engine.versions ≡ rows_at state j
engine_shows low engine state j ordered shows le = world_shows low (number_of engine.xids) state engine.versions ordered shows.stands j le

-- ---- the numbers of transactions, and the low number

-- where the numbers are the same ones, nothing changes
pub renumbered_stands : (low : ℕ) (number other : Numbers) (state : State) (versions : Versions) → ((x : ℕ) → other x ≡ number x) → VersionsStand low number state.base state.asked versions → VersionsStand low other state.base state.asked versions
renumbered_stands low number other state versions same stands = subst (λ f. VersionsStand low f state.base state.asked versions) (λ i x. sym (same x) i) stands

pub renumbered_wrote : (number other : Numbers) (versions : Versions) (me n : ℕ) (own : List Change) → ((x : ℕ) → other x ≡ number x) → Wrote number versions me n own → Wrote other versions me n own
renumbered_wrote number other versions me n own same wrote = subst (λ f. Wrote f versions me n own) (λ i x. sym (same x) i) wrote

-- the low number rises
pub raised_stands : (low higher : ℕ) (number : Numbers) (state : State) (versions : Versions) → low ≤ higher → VersionsStand low number state.base state.asked versions → VersionsStand higher number state.base state.asked versions
raised_stands low higher number state versions le stands = record {
  sorted = stands.sorted;
  slots_sorted = stands.slots_sorted;
  tables = λ name. narrowed (IsFrom low) (IsFrom low) number (schema_named state.base name) (schema_writes name state.asked) (IsFrom higher) (IsFrom higher) (schemas (names_at versions name))
      (λ j at. omega (arith, le, at)) (λ n since. omega (arith, le, since)) (stands.tables name);
  rows = λ name made key. narrowed (IsTableAt low number versions name made) (IsTableSince low number versions name made) number (row_of (table_at state.base name) key) (row_writes name key state.asked)
      (IsTableAt higher number versions name made) (IsTableSince higher number versions name made) (rows_of versions made.id key)
      (λ j at. (up at.0, at.1)) (λ n since. (up since.0, since.1)) (stands.rows name made key);
}
  where
    up : {j : ℕ} → higher ≤ j → low ≤ j
    up h = omega (arith, le, h)

-- ---- a transaction that has written nothing

undrawn : {V : Type 0} (next x : ℕ) (chain : List (ℕ × Option V)) → ((0 < x) → (x < next) → ⊥) → AllByRecursion (IsBy (IsDrawn next)) chain → written_by x chain ≡ None
undrawn next x [] out all = refl
undrawn next x (v ∷ vs) out all = ap (λ b. cond b (Some v.1) None) (ne_eqb x v.0 (λ same. out (subst (λ z. 0 < z) (sym same) all.0.0) (subst (λ z. z < next) (sym same) all.0.1)))

undrawn_schemas : (next x : ℕ) (chain : List (ℕ × Option Made)) → ((0 < x) → (x < next) → ⊥) → AllByRecursion (IsBy (IsDrawn next)) chain → written_by x (schemas chain) ≡ None
undrawn_schemas next x [] out all = refl
undrawn_schemas next x (v ∷ vs) out all = ap (λ b. cond b (Some (option_map (λ (m : Made). m.schema) v.1)) None) (ne_eqb x v.0 (λ same. out (subst (λ z. 0 < z) (sym same) all.0.0) (subst (λ z. z < next) (sym same) all.0.1)))

-- one that has no number, or the next
pub nothing_wrote : (number : Numbers) (versions : Versions) (next x n : ℕ) → number x ≡ None → ((0 < x) → (x < next) → ⊥) → AreBy (IsDrawn next) versions → Wrote number versions x n []
nothing_wrote number versions next x n none out all = record {
  is_open = none;
  tables = λ name. undrawn_schemas next x (names_at versions name) out (all.names name);
  rows = λ name made key j le is at. undrawn next x (rows_of versions made.id key) out (all.rows made.id key);
  created = λ name made key is. absurd (false≢true (ap is_some (sym (undrawn next x (names_at versions name) out (all.names name)) ∙ is)));
  fresh = λ name made j is at. false≢true (ap is_some (sym (undrawn next x (names_at versions name) out (all.names name)) ∙ is));
}

-- ---- the beginning

none_at : (X : Type 0) (j : ℕ) → None ≡ value_at_number {V = X} None [] j
none_at X zero = refl
none_at X (suc j) = refl

pub none_since : (X : Type 0) (n : ℕ) → None ≡ changed_since {V = X} n []
none_since X zero = refl
none_since X (suc n) = refl

pub never : (k n : ℕ) → k ≡ 0 → n < k → ⊥
never k n is below = omega (arith, is, below)

nothing_shows : (X : Type 0) (at since : ℕ → Type 0) (number : Numbers) → ShowsKey {V = X} at since number None [] []
nothing_shows X at since number = record { rows = λ j here. none_at X j; changes = λ n here. none_since X n; told = λ n here. tt; behind = tt }

-- with no tables
pub empty_stands : (low : ℕ) (number : Numbers) → VersionsStand low number [] [] (record { names = []; slots = [] })
empty_stands low number = record {
  sorted = tt;
  slots_sorted = λ id. tt;
  tables = λ name. nothing_shows Schema (IsFrom low) (IsFrom low) number;
  rows = λ name made key. nothing_shows Row (IsTableAt low number (record { names = []; slots = [] }) name made) (IsTableSince low number (record { names = []; slots = [] }) name made) number;
}

-- a base that is there: one version each, by a transaction that was committed before
pub first_shows : {X : Type 0} (at since : ℕ → Type 0) (number : Numbers) (b : ℕ) (v : X) → number b ≡ Some 0 → ShowsKey at since number (Some v) [] ((b, Some v) ∷ [])
first_shows {X} at since number b v is = record {
  rows = λ j here. ap (λ o. cond (is_by j o) (Some v) None) is ∙ first_at j;
  changes = λ n here. ap (λ o. above n (option_or o None)) is ∙ not_above 0 n (omega arith) ∙ none_since X n;
  told = λ n here. (λ k at below. absurd (never k n (ap (λ o. unwrap_or o k) (sym at ∙ is)) below), tt);
  behind = tt;
}
  where
    base_at : (j : ℕ) → Some v ≡ value_at_number (Some v) [] j
    base_at zero = refl
    base_at (suc j) = refl

    first_at : (j : ℕ) → cond (is_by j (Some 0)) (Some v) None ≡ value_at_number (Some v) [] j
    first_at j = ap (λ b. cond b (Some v) None) (le-leb 0 j (omega arith)) ∙ base_at j
