-- What a SELECT reads, and what a grant leaves.
use Rattle.std.proofs.Common.{◌≡◌, ℕ, ℤ, ◌≤◌, Bool, List, Option, Some, None, refl, sym, ◌∙◌, ap, subst}
use Rattle.std.specs.Prelude.{T, unwrap_or, is_some}
use Rattle.std.specs.Option.{option_map}
use Rattle.std.specs.Ordering.{nat_cmp, int_cmp}
use Rattle.std.specs.Cmp.{int_cmp_total}
use Rattle.std.specs.Cmp.Lexicographic.{nat_list_cmp_total}
use Rattle.std.specs.FinMap.Entries.{put, is_sorted}
use Rattle.std.proofs.lemmas.Bool.{false≢true}
use Rattle.ctr_model.specs.declared.database.Table.{Table}
use Rattle.ctr_model.specs.declared.state.State.{State}
use Rattle.ctr_model.specs.declared.state.Transaction.{Transaction}
use Rattle.ctr_model.specs.Database.{name_cmp, table_at, row_at}
use Rattle.ctr_model.specs.State.{view}
use Rattle.ctr_model.specs.Refusals.{row_of}
use Rattle.ctr_versions.specs.Chains.{value_seen}
use Rattle.ctr_versions.specs.Keys.{schema_named}
use Rattle.ctr_versions.specs.Xids.{Xids, number_of, IsSnapshotOf}
use Rattle.ctr_versions.specs.Listing.{entries_seen}
use Rattle.ctr_versions.specs.Versions.{Made, Versions, names_at, slots_of, rows_of, table_seen, database_seen, Wrote, IsOrdered}
use Rattle.ctr_versions.specs.Engine.{SessionHeld, EngineHeld, session_sees, IsCalm, ShowsSession, ShowsState}
use Rattle.ctr_versions.specs.Laws.{GrantsAreShown}
use Rattle.ctr_versions.proofs.Versions.{find-map, sorted-map}
use Rattle.ctr_versions.proofs.Listing.{find-shown, is_sorted-shown}
use Rattle.ctr_versions.proofs.Engine.{session_shows}
use Rattle.ctr_versions.proofs.Steps.{inside_same, set_sessions}

-- the table that is seen under a name, and the row of a key in it
pub table_read : (sees : ℕ → Bool) (versions : Versions) (name : List ℕ) → T (is_sorted name_cmp versions.names) → table_at (database_seen sees versions) name ≡ option_map (table_seen sees versions) (value_seen sees (names_at versions name))
table_read sees versions name sorted = find-map (table_seen sees versions) name (entries_seen sees versions.names) ∙ ap (option_map (table_seen sees versions)) (find-shown name_cmp nat_list_cmp_total sees name versions.names sorted)

pub row_read : (sees : ℕ → Bool) (versions : Versions) (made : Made) (key : ℤ) → T (is_sorted int_cmp (slots_of versions made.id)) → row_at (table_seen sees versions made) key ≡ value_seen sees (rows_of versions made.id key)
row_read sees versions made key sorted = find-shown int_cmp int_cmp_total sees key (slots_of versions made.id) sorted

-- what is seen is in order, where the chains are
pub seen_ordered : (sees : ℕ → Bool) (versions : Versions) → T (is_sorted name_cmp versions.names) → ((id : ℕ) → T (is_sorted int_cmp (slots_of versions id))) → IsOrdered (database_seen sees versions)
seen_ordered sees versions sorted slots_sorted = record {
  names = sorted-map (table_seen sees versions) (entries_seen sees versions.names) (is_sorted-shown name_cmp sees versions.names sorted);
  rows = λ name t at. rows_ordered name t (value_seen sees (names_at versions name)) (sym (table_read sees versions name sorted) ∙ at);
}
  where
    rows_ordered : (name : List ℕ) (t : Table) (o : Option Made) → option_map (table_seen sees versions) o ≡ Some t → T (is_sorted int_cmp t.rows)
    rows_ordered name t None e = absurd (false≢true (ap is_some e))
    rows_ordered name t (Some made) e = subst (λ (u : Table). T (is_sorted int_cmp u.rows)) (ap (λ (o : Option Table). unwrap_or o t) e) (is_sorted-shown int_cmp sees (slots_of versions made.id) (slots_sorted made.id))

-- the columns and the rows of what is seen, by the chains
pub schema_read : (sees : ℕ → Bool) (versions : Versions) (name : List ℕ) → T (is_sorted name_cmp versions.names) → option_map (λ (m : Made). m.schema) (value_seen sees (names_at versions name)) ≡ schema_named (database_seen sees versions) name
schema_read sees versions name sorted =
    elim (value_seen sees (names_at versions name)) as (λ o. option_map (λ (m : Made). m.schema) o ≡ option_map (λ (t : Table). t.schema) (option_map (table_seen sees versions) o)) [ Some m ↦ refl | None ↦ refl ]
    ∙ sym (ap (λ (o : Option Table). option_map (λ (t : Table). t.schema) o) (table_read sees versions name sorted))

pub key_read : (sees : ℕ → Bool) (versions : Versions) (name : List ℕ) (made : Made) (key : ℤ) → T (is_sorted name_cmp versions.names) → T (is_sorted int_cmp (slots_of versions made.id)) → value_seen sees (names_at versions name) ≡ Some made
    → value_seen sees (rows_of versions made.id key) ≡ row_of (table_at (database_seen sees versions) name) key
key_read sees versions name made key sorted slots_sorted at = sym (row_read sees versions made key slots_sorted) ∙ sym (ap (λ o. row_of o key) (table_read sees versions name sorted ∙ ap (option_map (table_seen sees versions)) at))

-- the session's own test finds the table of its view, with the rows of its view in order
pub session_reads : (low : ℕ) (engine : EngineHeld) (state : State) (session : SessionHeld) (t : Transaction) (name : List ℕ) → IsOrdered state.base → ShowsState low engine state → ShowsSession low state.answered engine.xids engine.versions session t → IsCalm session t
    → option_map (table_seen (session_sees engine.xids session) engine.versions) (value_seen (session_sees engine.xids session) (names_at engine.versions name)) ≡ table_at (view state t) name
session_reads low engine state session t name ordered shows mine unasked =
    sym (table_read (session_sees engine.xids session) engine.versions name shows.stands.sorted) ∙ ap (λ db. table_at db name) (session_shows low engine state session t ordered shows mine unasked)

-- ---- a lock or a use is granted, and the transaction has its number

-- the session shows a transaction with the same snapshot, changes and commit number
pub session_moved : (low answered : ℕ) (xids : Xids) (versions : Versions) (session : SessionHeld) (t u : Transaction) → u.snapshot ≡ t.snapshot → u.own ≡ t.own → u.asked ≡ t.asked → ShowsSession low answered xids versions session t → ShowsSession low answered xids versions session u
session_moved low answered xids versions session t u snapshot own asked theirs = record {
  snapshot = subst (λ n. IsSnapshotOf xids session.snapshot n) (sym snapshot) theirs.snapshot;
  old = theirs.old;
  from = λ calm. subst (λ n. low ≤ n) (sym snapshot) (theirs.from calm);
  to = subst (λ n. n ≤ answered) (sym snapshot) theirs.to;
  wrote = λ quiet. subst (λ n. Wrote (number_of xids) versions session.me n u.own) (sym snapshot) (subst (λ cs. Wrote (number_of xids) versions session.me t.snapshot cs) (sym own) (theirs.wrote (sym asked ∙ quiet.0, quiet.1)));
  live = λ quiet lt. theirs.live (sym asked ∙ quiet) lt;
  asked = λ k e. theirs.asked k (sym asked ∙ e);
}

pub grants_shown : GrantsAreShown
grants_shown low engine state s t u shows at granted =
    let one = shows.inside s t at in
    set_sessions low engine state shows engine.sessions (put nat_cmp s u state.sessions)
    (inside_same low low state.answered state.answered engine.xids engine.xids engine.versions engine.versions state.sessions engine.sessions s shows.inside (λ r w b apart at_r at_b other. other) u one.0 one.1
    (session_moved low state.answered engine.xids engine.versions one.0 t u granted.snapshot granted.own granted.asked one.2)) shows.below shows.apart
