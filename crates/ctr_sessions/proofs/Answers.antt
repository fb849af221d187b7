-- What an engine answers at a Lock or a Read is what the model says.
use Rattle.std.proofs.Common.{◌≡◌, ℕ, ◌+◌, ◌==◌, ℤ, Bool, false, cond, not, List, ◌++◌, Option, Some, None, refl, sym, ◌∙◌, ap}
use Rattle.std.specs.Prelude.{is_some, is_none, ◌&&◌, option_and_then}
use Rattle.std.specs.Option.{option_map}
use Rattle.std.proofs.lemmas.Bool.{false≢true, true≢false, eq-eqb, or_left}
use Rattle.ctr_types.specs.declared.statement.Statement.{Statement}
use Rattle.ctr_types.specs.declared.statement.Statement.TheVariants as st
use Rattle.ctr_types.specs.declared.tape.Act.{Act}
use Rattle.ctr_types.specs.declared.tape.Act.TheVariants as act
use Rattle.ctr_types.specs.declared.tape.Refusal.{Refusal}
use Rattle.ctr_types.specs.declared.tape.Refusal.TheVariants as refusal
use Rattle.ctr_model.specs.declared.database.Table.{Table}
use Rattle.ctr_model.specs.declared.state.State.{State}
use Rattle.ctr_model.specs.declared.state.Transaction.{Transaction}
use Rattle.ctr_model.specs.Database.{table_at}
use Rattle.ctr_model.specs.State.{has_name, view}
use Rattle.ctr_model.specs.Refusals.{table_of, key_locked, creates, changes_schema, others, first_session, is_busy, busy_by, locked_by, is_touching, answered_since, last_with, schema_changed_by, row_changed_by, when, first_of, presence_refusals, name_refusals, value_refusals, key_refusals, table_refusals, refusal_of}
use Rattle.ctr_model.specs.Reply.{rows_found, rows_read}
use Rattle.ctr_versions.specs.Chains.{Numbers, value_seen, by, newest, above, newest_since, written_by}
use Rattle.ctr_versions.specs.Xids.{number_of}
use Rattle.ctr_versions.specs.Keys.{schema_change, left_by}
use Rattle.ctr_versions.specs.Versions.{Made, names_at, rows_of, Wrote}
use Rattle.ctr_versions.specs.Engine.{EngineHeld, ShowsSession}
use Rattle.ctr_sessions.specs.Answers.{Seat, seat_sees, made_seen, with_rows, rows_seen, name_newer, keys_refused, refusals_seen, refusal_seen}
use Rattle.ctr_sessions.specs.Laws.{SaysLocks, IsSeat}
use Rattle.ctr_versions.proofs.Asked.{own_head}
use Rattle.ctr_versions.proofs.Chains.{own_seen}
use Rattle.ctr_versions.proofs.Engine.{session_alike}
use Rattle.ctr_versions.proofs.Versions.{behind_schemas}
use Rattle.ctr_versions.proofs.Conflicts.{schema_conflict, row_conflict}
use Rattle.ctr_versions.proofs.Locks.{since_steady}
use Rattle.ctr_versions.proofs.Reading.{session_reads}
use Rattle.ctr_legal.proofs.Keep.{idle_first, quiet_name}
use Rattle.ctr_legal.proofs.Cover.{quiet_key}
use Rattle.ctr_sessions.proofs.Alike.{AreAlike, first_alike, unmapped}
use Rattle.ctr_sessions.proofs.Own.{newest-schemas, head-schemas, uncreated, was_created}

-- no statement that locks a key makes a table
creates_unkeyed : (a : Act) (statement : Statement) (key : ℤ) → key_locked a statement ≡ Some key → creates statement ≡ false
creates_unkeyed act.Begin statement key is = absurd (false≢true (ap is_some is))
creates_unkeyed act.Read statement key is = absurd (false≢true (ap is_some is))
creates_unkeyed act.Write statement key is = absurd (false≢true (ap is_some is))
creates_unkeyed act.Ask statement key is = absurd (false≢true (ap is_some is))
creates_unkeyed act.Answer statement key is = absurd (false≢true (ap is_some is))
creates_unkeyed act.Rollback statement key is = absurd (false≢true (ap is_some is))
creates_unkeyed (act.Release name) statement key is = absurd (false≢true (ap is_some is))
creates_unkeyed act.Lock st.Begin key is = refl
creates_unkeyed act.Lock st.Commit key is = refl
creates_unkeyed act.Lock st.Rollback key is = refl
creates_unkeyed act.Lock (st.Create table schema) key is = absurd (false≢true (ap is_some is))
creates_unkeyed act.Lock (st.DropTable table) key is = refl
creates_unkeyed act.Lock (st.Insert table values) key is = refl
creates_unkeyed act.Lock (st.Select table at) key is = refl
creates_unkeyed act.Lock (st.Update table sets at) key is = refl
creates_unkeyed act.Lock (st.Delete table at) key is = refl

-- ---- what the session sees

module _ (low : ℕ) (state : State) (s : ℕ) (me : Transaction) (seat : Seat) (is_seat : IsSeat low state s me seat) where
  abbrev pub engine : EngineHeld
  engine = seat.db.engine

  abbrev pub number : Numbers
  number = number_of engine.xids

  abbrev pub names : List ℕ → List (ℕ × Option Made)
  names name = names_at engine.versions name

  abbrev pub mine : ShowsSession low state.answered engine.xids engine.versions seat.session me
  mine = is_seat.here.shown

  abbrev pub wrote : Wrote number engine.versions seat.session.me me.snapshot me.own
  wrote = mine.wrote (is_seat.here.unasked, is_seat.here.calm)

  pub reads : (name : List ℕ) → option_map (with_rows seat) (made_seen seat name) ≡ table_at (view state me) name
  reads name = session_reads low engine state seat.session me name is_seat.shows.ordered is_seat.shows.shows mine (is_seat.here.unasked, is_seat.here.calm)

  pub rows_same : (statement : Statement) → rows_seen seat statement ≡ rows_read (view state me) statement
  rows_same st.Begin = refl
  rows_same st.Commit = refl
  rows_same st.Rollback = refl
  rows_same (st.Create table schema) = refl
  rows_same (st.DropTable table) = refl
  rows_same (st.Insert table values) = refl
  rows_same (st.Select table key) = ap (rows_found key) (reads table)
  rows_same (st.Update table sets key) = refl
  rows_same (st.Delete table key) = refl

  -- what it sees under a name that it hasn't written is what its number shows
  pub shared_seen : (name : List ℕ) (made : Made) → written_by seat.session.me (names name) ≡ None → made_seen seat name ≡ Some made → value_seen (by number me.snapshot) (names name) ≡ Some made
  shared_seen name made unwritten is =
      sym (own_seen number me.snapshot seat.session.me (names name) None wrote.is_open (behind_schemas number (names name) (is_seat.shows.shows.stands.tables name).behind) unwritten)
      ∙ sym (session_alike engine.xids seat.session me.snapshot mine.snapshot (names name) (mine.old.names name)) ∙ is

  -- what it has written itself under a name is what it sees there
  pub own_made : (name : List ℕ) (made : Made) (w : Option Made) → made_seen seat name ≡ Some made → written_by seat.session.me (names name) ≡ Some w → written_by seat.session.me (names name) ≡ Some (Some made)
  own_made name made w is head = head ∙ ap (λ o. Some o) (sym (own_head (seat_sees seat) seat.session.me (names name) w (or_left (seat.session.me == seat.session.me) _ (eq-eqb seat.session.me seat.session.me refl)) head) ∙ is)

  -- ---- who was first

  pub newest_same : (name : List ℕ) → name_newer seat name ≡ above me.snapshot (newest number (names name))
  newest_same name = ap (λ n. newest_since number n (names name)) is_seat.since

  -- SchemaChanged
  pub schema_same : (schema : Bool) (name : List ℕ) → first_session (is_busy schema name) (others s state) ≡ None → newest_since number me.snapshot (names name) ≡ schema_changed_by state me name
  schema_same schema name idle =
      ap (λ o. above me.snapshot o) (sym (newest-schemas number (names name)))
      ∙ schema_conflict low number state engine.versions is_seat.shows.shows.stands me (mine.from is_seat.here.calm) mine.to is_seat.shows.shows.answered name (quiet_name state s is_seat.kept me is_seat.here.there is_seat.here.unasked schema name idle)

  -- what is left of a name that the session has, or hasn't, written
  left_of : (name : List ℕ) (w : Option (Option Made)) → written_by seat.session.me (names name) ≡ w → left_by (schema_change name) me.own ≡ option_map (λ (o : Option Made). option_map (λ (m : Made). m.schema) o) w
  left_of name w head = sym (wrote.tables name) ∙ head-schemas seat.session.me (names name) ∙ ap (option_map (λ (o : Option Made). option_map (λ (m : Made). m.schema) o)) head

  -- RowChanged
  pub row_same : (schema : Bool) (name : List ℕ) (key : ℤ) (made : Made) → made_seen seat name ≡ Some made → first_session (is_busy schema name) (others s state) ≡ None → newest_since number me.snapshot (names name) ≡ None → locked_by state s name key ≡ None
      → cond (is_some (written_by seat.session.me (names name))) None (newest_since number me.snapshot (rows_of engine.versions made.id key)) ≡ row_changed_by state me name key
  row_same schema name key made is idle unchanged free =
      elim (written_by seat.session.me (names name)) as (λ o. written_by seat.session.me (names name) ≡ o → cond (is_some o) None (newest_since number me.snapshot (rows_of engine.versions made.id key)) ≡ row_changed_by state me name key) [
        | Some w ↦ λ head. sym (ap (λ b. cond b None (last_with (is_touching name (Some key)) (me.snapshot + 1) (answered_since state me))) (was_created name me.own made.schema (left_of name (Some (Some made)) (own_made name made w is head))))
        | None ↦ λ head.
            row_conflict low number state engine.versions is_seat.shows.shows.stands me (mine.from is_seat.here.calm) mine.to is_seat.shows.shows.answered name made key (uncreated name me.own (left_of name None head)) (sym (schema_same schema name idle) ∙ unchanged)
            (since_steady low number engine.versions name made me.snapshot (mine.from is_seat.here.calm) unchanged (shared_seen name made head is))
            (quiet_key state s me is_seat.here.there is_seat.here.unasked is_seat.kept.pending is_seat.kept.covered schema name key free idle).1
      ] refl

  -- ---- all refusals in their order

  module _ (a : Act) (statement : Statement) (says : SaysLocks state s statement seat) where
    abbrev Alike : List ℕ → Option Made → Type 0
    Alike name o = AreAlike (refusals_seen seat a statement name o) (presence_refusals statement (option_map (with_rows seat) o) ++ name_refusals state s me statement name ++ value_refusals statement (option_map (with_rows seat) o) ++ key_refusals state s me name (key_locked a statement))

    module _ (name : List ℕ) (named : table_of statement ≡ Some name) where
      abbrev idle_of : Type 0
      idle_of = first_session (is_busy (changes_schema statement) name) (others s state) ≡ None

      idle : option_map (λ n. refusal.TableBusy n) seat.busy ≡ None → idle_of
      idle is = idle_first (has_name name state.stuck) _ (sym (says.busy name named) ∙ unmapped (λ n. refusal.TableBusy n) seat.busy is)

      keys : (o : Option Made) → made_seen seat name ≡ o → when (is_none o && not (creates statement)) refusal.NoTable ≡ None → idle_of → newest_since number me.snapshot (names name) ≡ None → (k : Option ℤ) → key_locked a statement ≡ k
          → AreAlike (keys_refused seat name o k) (key_refusals state s me name k)
      keys o is present idle_ unchanged None keyed = tt
      keys None is present idle_ unchanged (Some key) keyed = absurd (true≢false (ap is_some (sym (ap (λ b. when (not b) refusal.NoTable) (creates_unkeyed a statement key keyed)) ∙ present)))
      keys (Some made) is present idle_ unchanged (Some key) keyed = (
        ap (option_map (λ n. refusal.RowLocked n)) (says.locked name key named),
        λ free. (
          ap (option_map (λ n. refusal.RowChanged n))
              (ap (λ n. cond (is_some (written_by seat.session.me (names name))) None (newest_since number n (rows_of engine.versions made.id key))) is_seat.since
              ∙ row_same (changes_schema statement) name key made is idle_ unchanged (sym (says.locked name key named) ∙ unmapped (λ n. refusal.RowLocked n) (seat.locked key) free)),
          λ settled. tt,
        ),
      )

      busy_alike : option_map (λ n. refusal.TableBusy n) seat.busy ≡ option_map (λ n. refusal.TableBusy n) (busy_by state s statement name)
      busy_alike = ap (option_map (λ n. refusal.TableBusy n)) (says.busy name named)

      changed_alike : option_map (λ n. refusal.TableBusy n) seat.busy ≡ None → option_map (λ n. refusal.SchemaChanged n) (name_newer seat name) ≡ option_map (λ n. refusal.SchemaChanged n) (schema_changed_by state me name)
      changed_alike free = ap (option_map (λ n. refusal.SchemaChanged n)) (ap (λ n. newest_since number n (names name)) is_seat.since ∙ schema_same (changes_schema statement) name (idle free))

      unchanged_of : option_map (λ n. refusal.SchemaChanged n) (name_newer seat name) ≡ None → newest_since number me.snapshot (names name) ≡ None
      unchanged_of is = sym (ap (λ n. newest_since number n (names name)) is_seat.since) ∙ unmapped (λ n. refusal.SchemaChanged n) (name_newer seat name) is

      pub refusals_alike : (o : Option Made) → made_seen seat name ≡ o → Alike name o
      refusals_alike None is = (
        refl,
        λ present. (
          refl,
          λ new. (
            busy_alike,
            λ free. (
              changed_alike free,
              λ unchanged. keys None is present (idle free) (unchanged_of unchanged) (key_locked a statement) refl,
            ),
          ),
        ),
      )
      refusals_alike (Some made) is = (
        refl,
        λ present. (
          refl,
          λ new. (
            busy_alike,
            λ free. (
              changed_alike free,
              λ unchanged. (refl, λ good. keys (Some made) is present (idle free) (unchanged_of unchanged) (key_locked a statement) refl),
            ),
          ),
        ),
      )

      abbrev all_refusals : Option Table → List (Option Refusal)
      all_refusals t = presence_refusals statement t ++ name_refusals state s me statement name ++ value_refusals statement t ++ key_refusals state s me name (key_locked a statement)

      pub one_table : first_of (refusals_seen seat a statement name (made_seen seat name)) ≡ first_of (table_refusals state s me a statement name)
      one_table =
          first_alike (refusals_seen seat a statement name (made_seen seat name)) (all_refusals (option_map (with_rows seat) (made_seen seat name))) (refusals_alike (made_seen seat name) refl)
          ∙ ap (λ t. first_of (all_refusals t)) (reads name)

    pub lock_answers : refusal_seen seat a statement ≡ refusal_of state s me a statement
    lock_answers = elim (table_of statement) as (λ o. table_of statement ≡ o
        → option_and_then (λ name. first_of (refusals_seen seat a statement name (made_seen seat name))) o ≡ option_and_then (λ name. first_of (table_refusals state s me a statement name)) o) [
          | None ↦ λ named. refl
          | Some name ↦ λ named. one_table name named
        ] refl
