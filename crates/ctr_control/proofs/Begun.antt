-- A session that begins, in a World.
use Rattle.std.proofs.Common.{◌≡◌, ◌⊎◌, inl, inr, ℕ, ℤ, ◌==◌, true, false, cond, List, [], Some, None, refl, sym, ◌∙◌, ap, subst}
use Rattle.std.proofs.lemmas.Bool.{false≢true, eq-eqb, eqb-true}
use Rattle.ctr_writing.proofs.ctr_session_world.Alike.{put_in_order}
use Rattle.ctr_disk.specs.declared.disk.Disk.{Ghosts}
use Rattle.ctr_types.specs.declared.statement.Statement.TheVariants as st
use Rattle.ctr_types.specs.declared.tape.Act.TheVariants as act
use Rattle.ctr_types.specs.declared.tape.Reply.TheVariants as reply
use Rattle.ctr_types.specs.declared.tape.Reply.{Reply}
use Rattle.ctr_types.specs.declared.tape.Refusal.TheVariants as refusal
use Rattle.ctr_model.specs.declared.state.State.{State}
use Rattle.ctr_model.specs.declared.state.Transaction.{Transaction}
use Rattle.ctr_model.specs.Reply.{next_from, reply_from, MayStandFor}
use Rattle.ctr_model.specs.State.{begun, transaction_of, with_transaction}
use Rattle.ctr_model.specs.Tape.{Allowed}
use Rattle.ctr_model.proofs.Sessions.{find-put-other}
use Rattle.ctr_versions.proofs.Keys.{known}
use Rattle.ctr_actions.specs.Facts.{Fact}
use Rattle.ctr_actions.specs.Sites.{site_of}
use Rattle.ctr_meta.specs.Tables.{Tables}
use Rattle.ctr_writing.specs.ctr_session_world.paged_Moving.{begun_now, held_as}
use Rattle.ctr_writing.specs.ctr_session_world.paged_Paged.{Run}
use Rattle.ctr_redo.specs.States.{State as Stored}
use Rattle.ctr_store.specs.Store.{View}
use Rattle.ctr_locks.specs.Held.{LocksOfSession, held_by_session, session_locks}
use Rattle.ctr_locks.specs.Shows.{ShowsKeyLocks, IsTheSame, BeginLeavesLocks}
use Rattle.ctr_writing.specs.ctr_session_world.kept_Turns.{Start, begun_mind, state_now, telling}
use Rattle.ctr_writing.specs.ctr_session_world.stops_World.{KeepsWorld}
use Rattle.ctr_writing.specs.ctr_session_world.txn_Held.{TxnHeld, TxnsHeld, IsOneOfEight, run_of, txn_of}
use Rattle.ctr_writing.specs.ctr_session_world.txn_Steps.{SetsTxn, txn_begun}
use Rattle.ctr_writing.specs.ctr_session_world.World.{SessionsHeld, IsInTable, AreInTables, names_in, AreInOrder}
use Rattle.ctr_writing.specs.ctr_session_world.Told.{IsNextOf, IsActTold}
use Rattle.ctr_writing.proofs.ctr_session_world.Standing.{RunFinds, none_of, told_state}

-- the run with a session that begins
abbrev pub RunSets : Type 0
RunSets = (s : ℕ) (t : TxnHeld) (old new : TxnsHeld) → IsOneOfEight s → (n : ℕ) → SetsTxn s (Some t) old new → new.numbers ≡ old.numbers → run_of new ≡ held_as s t.session (run_of old)

module _ {D : Type 0} (g : Ghosts D) (c : Start) (opened : D) (a b : View D) (old : TxnsHeld) (locks : List (ℕ × LocksOfSession)) (s : ℕ)
    (next : IsNextOf g c opened a b (record { txns = old; locks = locks }) s st.Begin 0) (one : IsOneOfEight s) (finds : RunFinds) where
  abbrev h : SessionsHeld
  h = record { txns = old; locks = locks }

  abbrev state : State
  state = state_now c next.mind

  -- a session in a transaction is refused
  pub refused_inside : (t : Transaction) → transaction_of state s ≡ Some t → Allowed state s act.Begin st.Begin (reply.Refused refusal.InTransaction)
  refused_inside t is = inl (sym (ap (λ o. reply_from state s o act.Begin st.Begin) is))

  module _ (none : txn_of s old ≡ None) where
    pub outside : transaction_of state s ≡ None
    outside = none_of g c opened a b h s st.Begin 0 next finds one none

    pub is_answered : state.answered ≡ old.answered
    is_answered = sym next.world.keeps.walks.scene.shown.paged.shows.same_answered ∙ ap (λ (r : Run). r.answered) next.world.run_is

    pub begins : (n : ℕ) → n ≡ state.answered → Allowed state s act.Begin st.Begin (reply.Began n)
    begins n is = inl (ap reply.Began is ∙ sym (ap (λ o. reply_from state s o act.Begin st.Begin) outside))

    -- want of memory may stand in its place
    pub wants : Allowed state s act.Begin st.Begin (reply.Refused refusal.OutOfMemory)
    wants = subst (λ o. (reply.Refused refusal.OutOfMemory ≡ reply_from state s o act.Begin st.Begin) ⊎ MayStandFor st.Begin (reply_from state s o act.Begin st.Begin) (reply.Refused refusal.OutOfMemory)) (sym outside) (inr refl)

    -- ---- it has begun

    abbrev Began : ℕ → Reply
    Began n = reply.Began n

    -- the run and the locks that the law of a session that begins leaves
    abbrev pub RunIs : TxnsHeld → Type 0
    RunIs new = (t : TxnHeld) → SetsTxn s (Some t) old new → run_of new ≡ record (held_as s t.session (run_of old)) { commits = new.numbers.commits }

    module _ (new : TxnsHeld) (tables : Tables) (tables_are : tables ≡ a.now.tables) (sets : SetsTxn s (Some (txn_begun tables old)) old new) (numbers : new.numbers ≡ old.numbers)
        (runs : RunIs new) (shows : BeginLeavesLocks) (pages : b.now ≡ a.now) where
      abbrev now : SessionsHeld
      now = record { txns = new; locks = locks }

      run_now : held_as s (begun_now (site_of a.now) next.mind.run) next.mind.run ≡ run_of new
      run_now =
          ap (λ (r : Run). held_as s (begun_now (site_of a.now) r) r) next.world.run_is
          ∙ ap (λ (t : Tables). held_as s (txn_begun t old).session (run_of old)) (sym tables_are)
          ∙ ap (λ l. record (held_as s (txn_begun tables old).session (run_of old)) { commits = l.commits }) (sym numbers)
          ∙ sym (runs (txn_begun tables old) sets)

      abbrev begun_state : State
      begun_state = with_transaction s (begun state.answered) state

      locks_now : ShowsKeyLocks (names_in a.now) locks begun_state
      locks_now = shows (names_in a.now) s state.answered locks state outside next.world.locks

      abbrev facts_now : ℕ → List Fact
      facts_now = (begun_mind s (site_of a.now) state.answered next.mind).facts

      same_facts : (r : ℕ) → (r == s) ≡ false → facts_now r ≡ next.mind.facts r
      same_facts r two = ap (λ x. cond x [] (next.mind.facts r)) two

      none_locked : (e : ℕ) (key : ℤ) → session_locks s e key locks ≡ true → ⊥
      none_locked e key is = false≢true (sym ((subst (λ o. IsTheSame (names_in a.now) (held_by_session s locks) o) outside (next.world.locks s)).locks e key) ∙ is)

      tables_now : AreInTables a.now locks begun_state facts_now
      tables_now r e key u is at = known (r == s)
          (λ one_. absurd (none_locked e key (subst (λ q. session_locks q e key locks ≡ true) (eqb-true r s one_) is)))
          (λ two. subst (λ l. IsInTable a.now e u l) (sym (same_facts r two)) (next.world.tables r e key u is (sym (find-put-other r s (begun state.answered) state.sessions two) ∙ at)))

      pub begun_told : KeepsWorld g c opened b (telling next.e act.Begin (reply.Began state.answered) next.mind (begun_mind s (site_of a.now) state.answered next.mind)) → IsActTold next now act.Begin (reply.Began state.answered)
      begun_told keeps =
          let v = telling next.e act.Begin (reply.Began state.answered) next.mind (begun_mind s (site_of a.now) state.answered next.mind) in
          let is_state = told_state g c opened a b h s st.Begin 0 next act.Begin (reply.Began state.answered) v refl
          ∙ ap (λ o. next_from state s o act.Begin (Some st.Begin) (reply.Began state.answered)) outside in
          record {
            mind = v;
            world = record {
              keeps = keeps;
              run_is = run_now;
              locks = subst (λ q. ShowsKeyLocks (names_in q) locks (state_now c v)) (sym pages) (subst (λ (q : State). ShowsKeyLocks (names_in a.now) locks q) (sym is_state) locks_now);
              tables = subst (λ q. AreInTables q locks (state_now c v) v.facts) (sym pages) (subst (λ (q : State). AreInTables a.now locks q v.facts) (sym is_state) tables_now);
              in_order = subst AreInOrder (sym is_state) (put_in_order s (begun state.answered) state next.world.in_order);
            };
            tape = refl;
            undo = refl;
            names = λ e there. ap (λ (q : Stored). names_in q e) pages;
            others = same_facts;
            counts = ap (λ x. cond x [] (next.mind.facts s)) (eq-eqb s s refl);
          }
