-- Write of a row: INSERT, UPDATE and DELETE are one. And what locks owe to a write and to a commit.
use Rattle.std.proofs.Common.{◌≡◌, ℕ, ◌+◌, ◌<◌, ◌==◌, ℤ, true, false, List, [], ◌∷◌, drop, Option, Some, None, refl, sym, ◌∙◌, ap, subst}
use Rattle.std.specs.Prelude.{is_some, is_none, option_and_then}
use Rattle.std.specs.Option.{option_map}
use Rattle.std.specs.Ordering.{nat_cmp}
use Rattle.std.specs.FinMap.Entries.{find}
use Rattle.std.proofs.lemmas.Bool.{false≢true, eq-eqb}
use Rattle.ctr_types.specs.declared.statement.Statement.{Statement}
use Rattle.ctr_types.specs.declared.statement.Statement.TheVariants as st
use Rattle.ctr_types.specs.declared.tape.Refusal.TheVariants as refusal
use Rattle.ctr_model.specs.declared.database.Change.TheVariants as change
use Rattle.ctr_model.specs.declared.state.State.{State}
use Rattle.ctr_model.specs.declared.state.Transaction.{Transaction}
use Rattle.ctr_model.specs.Database.{Database, table_at}
use Rattle.ctr_model.specs.State.{has_name, view}
use Rattle.ctr_model.specs.Refusals.{table_of, key_of, key_written, has_lock, when, row_of, columns_of, updated, update_refusal, write_refusal}
use Rattle.ctr_model.specs.Reply.{put_of, changes_of}
use Rattle.ctr_versions.specs.Chains.{Numbers, above, newest_since, written_by}
use Rattle.ctr_versions.specs.Xids.{number_of}
use Rattle.ctr_versions.specs.Keys.{schema_change, row_change, left_by, schema_writes, row_written}
use Rattle.ctr_versions.specs.Versions.{Made, names_at, rows_of, IsTableOf}
use Rattle.ctr_versions.specs.Engine.{SessionHeld, EngineHeld, ShowsSession}
use Rattle.ctr_versions.specs.Steps.{IsFreeKey, IsFreeName}
use Rattle.ctr_legal.specs.Ready.{HasKey}
use Rattle.ctr_sessions.specs.Answers.{Seat, seat_sees, made_seen, columns_seen, row_seen, with_rows, write_refused, row_left}
use Rattle.ctr_sessions.specs.Laws.{IsSeat}
use Rattle.ctr_versions.proofs.Keys.{some_is}
use Rattle.ctr_versions.proofs.Asked.{own_head}
use Rattle.ctr_versions.proofs.Conflicts.{steady}
use Rattle.ctr_versions.proofs.Locks.{on_shared, on_created, free_shared, schema_none}
use Rattle.ctr_versions.proofs.Reading.{row_read}
use Rattle.ctr_legal.proofs.Keep.{denied}
use Rattle.ctr_legal.proofs.Telling.{updated_row}
use Rattle.ctr_legal.proofs.Ready.{absurd_some}
use Rattle.ctr_sessions.proofs.Own.{newest-schemas, last_none, one_head, apart_head}
use Rattle.ctr_sessions.proofs.Answers.{reads, shared_seen, own_made}

-- ---- the model's Write of a row, over the columns and the row that is there

write_model : (db : Database) (statement : Statement) (name : List ℕ) (key : ℤ) → table_of statement ≡ Some name → key_written statement ≡ Some key
    → write_refusal db statement ≡ write_refused (columns_of (table_at db name)) statement (row_of (table_at db name) key)
write_model db st.Begin name key named keyed = refl
write_model db st.Commit name key named keyed = refl
write_model db st.Rollback name key named keyed = refl
write_model db (st.Create table schema) name key named keyed = refl
write_model db (st.DropTable table) name key named keyed = refl
write_model db (st.Select table at) name key named keyed = refl
write_model db (st.Insert table values) name key named keyed = λ i. when (is_some (row_of (table_at db (some_is table name named i)) (some_is (key_of values) key keyed i))) refusal.Duplicate
write_model db (st.Update table sets at) name key named keyed = λ i. update_refusal (columns_of (table_at db (some_is table name named i))) sets (row_of (table_at db (some_is table name named i)) (some_is at.key key keyed i))
write_model db (st.Delete table at) name key named keyed = λ i. when (is_none (row_of (table_at db (some_is table name named i)) (some_is at.key key keyed i))) refusal.NotFound

change_model : (db : Database) (statement : Statement) (name : List ℕ) (key : ℤ) → table_of statement ≡ Some name → key_written statement ≡ Some key
    → write_refused (columns_of (table_at db name)) statement (row_of (table_at db name) key) ≡ None
    → changes_of db statement ≡ row_written name key (row_left (columns_of (table_at db name)) statement (row_of (table_at db name) key)) ∷ []
change_model db st.Begin name key named keyed none = absurd_some name named
change_model db st.Commit name key named keyed none = absurd_some name named
change_model db st.Rollback name key named keyed none = absurd_some name named
change_model db (st.Create table schema) name key named keyed none = absurd_some key keyed
change_model db (st.DropTable table) name key named keyed none = absurd_some key keyed
change_model db (st.Select table at) name key named keyed none = absurd_some key keyed
change_model db (st.Insert table values) name key named keyed none = λ i. change.Put (some_is table name named i) (some_is (key_of values) key keyed i) (record { values = values }) ∷ []
change_model db (st.Delete table at) name key named keyed none = λ i. change.Remove (some_is table name named i) (some_is at.key key keyed i) ∷ []
change_model db (st.Update table sets at) name key named keyed none =
    let is_table = some_is table name named in
    let is_key = some_is at.key key keyed in
    let t = table_at db name in
    let new = updated_row (columns_of t) sets (row_of t key) none in
    (λ i. put_of (is_table i) (is_key i) (option_and_then (updated (columns_of (table_at db (is_table i))) sets) (row_of (table_at db (is_table i)) (is_key i))))
    ∙ ap (put_of name key) new.1 ∙ sym (ap (λ o. row_written name key o ∷ []) new.1)

-- ---- Write

module _ (low : ℕ) (state : State) (s : ℕ) (me : Transaction) (seat : Seat) (is_seat : IsSeat low state s me seat) where
  abbrev engine : EngineHeld
  engine = seat.db.engine

  abbrev number : Numbers
  number = number_of engine.xids

  abbrev names : List ℕ → List (ℕ × Option Made)
  names name = names_at engine.versions name

  abbrev mine : ShowsSession low state.answered engine.xids engine.versions seat.session me
  mine = is_seat.here.shown

  columns_same : (name : List ℕ) → columns_seen (made_seen seat name) ≡ columns_of (table_at (view state me) name)
  columns_same name = shape (made_seen seat name) ∙ ap columns_of (reads low state s me seat is_seat name)
    where
      shape : (o : Option Made) → columns_seen o ≡ columns_of (option_map (with_rows seat) o)
      shape None = refl
      shape (Some made) = refl

  row_same : (name : List ℕ) (key : ℤ) → row_seen seat (made_seen seat name) key ≡ row_of (table_at (view state me) name) key
  row_same name key = shape (made_seen seat name) ∙ ap (λ t. row_of t key) (reads low state s me seat is_seat name)
    where
      shape : (o : Option Made) → row_seen seat o key ≡ row_of (option_map (with_rows seat) o) key
      shape None = refl
      shape (Some made) = sym (row_read (seat_sees seat) engine.versions made key (is_seat.shows.shows.stands.slots_sorted made.id))

  -- the engine's refusal of a Write is the model's
  pub write_answers : (statement : Statement) (name : List ℕ) (key : ℤ) → table_of statement ≡ Some name → key_written statement ≡ Some key
      → write_refused (columns_seen (made_seen seat name)) statement (row_seen seat (made_seen seat name) key) ≡ write_refusal (view state me) statement
  write_answers statement name key named keyed = (λ i. write_refused (columns_same name i) statement (row_same name key i)) ∙ sym (write_model (view state me) statement name key named keyed)

  -- and its change
  pub change_answers : (statement : Statement) (name : List ℕ) (key : ℤ) → table_of statement ≡ Some name → key_written statement ≡ Some key → write_refusal (view state me) statement ≡ None
      → changes_of (view state me) statement ≡ row_written name key (row_left (columns_seen (made_seen seat name)) statement (row_seen seat (made_seen seat name) key)) ∷ []
  change_answers statement name key named keyed none =
      change_model (view state me) statement name key named keyed (sym (write_model (view state me) statement name key named keyed) ∙ none)
      ∙ (λ i. row_written name key (row_left (sym (columns_same name) i) statement (sym (row_same name key) i)) ∷ [])

  -- a table that it uses is the one of each later number
  steady_names : (name : List ℕ) → has_name name me.uses ≡ true → newest_since number me.snapshot (names name) ≡ None
  steady_names name used = ap (λ o. above me.snapshot o) (sym (newest-schemas number (names name))) ∙ (is_seat.shows.shows.stands.tables name).changes me.snapshot (mine.from is_seat.here.calm)
      ∙ last_none (me.snapshot + 1) (drop me.snapshot (schema_writes name state.asked)) ((is_seat.kept.firm s me is_seat.here.there is_seat.here.unasked).uses name used)

  either : {A : Type 0} (name : List ℕ) (made : Made) → made_seen seat name ≡ Some made → (written_by seat.session.me (names name) ≡ Some (Some made) → A) → (written_by seat.session.me (names name) ≡ None → A) → A
  either {A = A} name made is created shared = elim (written_by seat.session.me (names name)) as (λ o. written_by seat.session.me (names name) ≡ o → A) [ Some w ↦ λ e. created (own_made low state s me seat is_seat name made w is e) | None ↦ λ e. shared e ] refl

  -- another session's transaction, as the engine has it
  other_shown : (r : ℕ) (u : Transaction) (b : SessionHeld) → find nat_cmp r state.sessions ≡ Some u → find nat_cmp r engine.sessions ≡ Some b → ShowsSession low state.answered engine.xids engine.versions b u
  other_shown r u b at_r at_b =
      let other = is_seat.shows.shows.inside r u at_r in
      subst (λ (c : SessionHeld). ShowsSession low state.answered engine.xids engine.versions c u) (some_is other.0 b (sym other.1 ∙ at_b)) other.2

  -- a key under a lock of its session
  module _ (name : List ℕ) (key : ℤ) (made : Made) (is : made_seen seat name ≡ Some made) (under : HasKey me name (Some key)) (positive : 0 < seat.session.me) where
    pub is_table : IsTableOf number engine.versions seat.session.me me.snapshot name made.id
    is_table = either name made is
        (λ own. on_created number engine.versions seat.session.me me.snapshot name made is_seat.shows.tables own)
        (λ unwritten. on_shared number engine.versions seat.session.me me.snapshot name made is_seat.shows.tables (steady_names name under.1) unwritten (shared_seen low state s me seat is_seat name made unwritten is))

    left_alone : (r : ℕ) (u : Transaction) → (r == s) ≡ false → find nat_cmp r state.sessions ≡ Some u → (left_by (schema_change name) u.own ≡ None) × (left_by (row_change name key) u.own ≡ None)
    left_alone r u two at_r =
        let a = is_seat.kept.apart r s u me two at_r is_seat.here.there in
        let covered = is_seat.kept.covered r u at_r in
        let unheld = denied (has_name name u.holds) (λ held. a.uses name held under.1) in
        (covered.names name unheld, covered.rows name key (denied (has_lock name key u) (λ theirs. a.locks name key theirs under.0)) unheld)

    pub is_free : IsFreeKey engine state.sessions s made.id key
    is_free r u b two at_r at_b quiet =
        let alone = left_alone r u two at_r in
        let shown = other_shown r u b at_r at_b in
        let not_me : b.me ≡ seat.session.me → ⊥ = λ same. false≢true (sym two ∙ eq-eqb r s (sym (is_seat.shows.shows.apart s r seat.session b is_seat.here.held at_b positive (sym same)))) in
        either name made is
        (λ own. (
          apart_head seat.session.me b.me (rows_of engine.versions made.id key) ((mine.wrote (is_seat.here.unasked, is_seat.here.calm)).created name made key own).0 not_me,
          λ other_name other_made head same_id.
              let one : other_name ≡ name = is_seat.shows.tables other_name name other_made made (λ z. z == b.me) (λ z. z == seat.session.me) (own_head (λ z. z == b.me) b.me (names other_name) (Some other_made) (eq-eqb b.me b.me refl) head)
              (own_head (λ z. z == seat.session.me) seat.session.me (names name) (Some made) (eq-eqb seat.session.me seat.session.me refl) own) same_id in
              not_me (one_head b.me seat.session.me (names name) (Some other_made) (Some made) (ap (λ q. written_by b.me (names q)) (sym one) ∙ head) own),
        ))
        (λ unwritten. free_shared number engine.versions b.me u.snapshot state.answered u.own name made key is_seat.shows.tables (shown.wrote quiet) shown.to
        (steady number me.snapshot state.answered (names name) (steady_names name under.1) mine.to ∙ shared_seen low state s me seat is_seat name made unwritten is) alone.0 alone.1)

  -- a name that it holds
  pub is_free_name : (name : List ℕ) → HasKey me name None → IsFreeName engine state.sessions s name
  is_free_name name held r u b two at_r at_b quiet =
      let free = denied (has_name name u.holds) (λ theirs. (is_seat.kept.apart r s u me two at_r is_seat.here.there).holds name theirs held) in
      schema_none b.me (names name) (((other_shown r u b at_r at_b).wrote quiet).tables name ∙ (is_seat.kept.covered r u at_r).names name free)
