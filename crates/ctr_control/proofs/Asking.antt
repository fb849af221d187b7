-- A COMMIT in a World: it is asked for, or ends a transaction that wrote nothing.
use Rattle.std.proofs.Common.{◌≡◌, ⊎_elim, inl, ℕ, ◌+◌, ◌<◌, ◌==◌, true, false, cond, List, [], ◌∷◌, ◌++◌, length, Option, Some, None, refl, sym, ◌∙◌, ap, subst, arith}
use Rattle.std.proofs.lemmas.Bool.{eq-eqb, eqb-true}
use Rattle.ctr_disk.specs.declared.disk.Disk.{Ghosts}
use Rattle.ctr_types.specs.declared.statement.Statement.TheVariants as st
use Rattle.ctr_types.specs.declared.tape.Act.TheVariants as act
use Rattle.ctr_types.specs.declared.tape.Reply.TheVariants as reply
use Rattle.ctr_types.specs.declared.tape.Refusal.TheVariants as refusal
use Rattle.ctr_model.specs.declared.state.State.{State}
use Rattle.ctr_model.specs.declared.state.Transaction.{Transaction}
use Rattle.ctr_model.specs.Reply.{next_from, reply_from}
use Rattle.ctr_model.specs.State.{has_name, transaction_of, with_transaction}
use Rattle.ctr_model.specs.Tape.{Allowed}
use Rattle.ctr_model.proofs.Sessions.{find-put-other, find-put-same}
use Rattle.ctr_versions.proofs.Keys.{known, some_is}
use Rattle.ctr_record_effects.specs.States.{area_in}
use Rattle.ctr_area.specs.Sound.{IsAmong}
use Rattle.ctr_actions.specs.Actions.{Commits, site_after}
use Rattle.ctr_actions.specs.Facts.{Fact, HasTable}
use Rattle.ctr_actions.specs.Sites.{Site, site_of}
use Rattle.ctr_writing.specs.ctr_session_world.paged_Paged.{Run}
use Rattle.ctr_store.specs.Store.{View}
use Rattle.ctr_locks.specs.Held.{LocksOfSession}
use Rattle.ctr_locks.specs.Shows.{ShowsKeyLocks}
use Rattle.ctr_writing.specs.ctr_session_world.kept_Tables.{AreTables}
use Rattle.ctr_writing.specs.ctr_session_world.kept_Walk.{Mind}
use Rattle.ctr_writing.specs.ctr_session_world.kept_Turns.{Start, InTransaction, asked_scene, carrying, state_now, telling}
use Rattle.ctr_writing.specs.ctr_session_world.stops_World.{KeepsWorld}
use Rattle.ctr_writing.specs.ctr_session_world.txn_Held.{TxnHeld, TxnsHeld, IsReading, IsWriting, run_of, txn_of}
use Rattle.ctr_writing.specs.ctr_session_world.ctr_told.Turning.{facts_idle}
use Rattle.ctr_writing.specs.ctr_session_world.World.{SessionsHeld, AreInTables, names_in, AreInOrder}
use Rattle.ctr_writing.specs.ctr_session_world.Told.{IsNextOf, IsActTold}
use Rattle.ctr_writing.proofs.ctr_session_world.Alike.{AreAlike, alike_itself, shows_alike, in_table_still, table_of_more, put_in_order}
use Rattle.ctr_writing.proofs.ctr_session_world.Standing.{told_state}
use Rattle.ctr_writing.proofs.ctr_session_world.Numbers.{none_or_some}

module _ {D : Type 0} (g : Ghosts D) (c : Start) (opened : D) (a b : View D) (old : TxnsHeld) (locks : List (ℕ × LocksOfSession)) (s : ℕ)
    (next : IsNextOf g c opened a b (record { txns = old; locks = locks }) s st.Commit 0) (seat : InTransaction c next.mind s) where
  abbrev h : SessionsHeld
  h = record { txns = old; locks = locks }

  abbrev w : Mind
  w = next.mind

  abbrev state : State
  state = state_now c w

  abbrev me : ℕ
  me = seat.session.me

  abbrev k : ℕ
  k = length state.asked + 1

  none_below : (n : ℕ) → 0 < n → n ≡ 0 → ⊥
  none_below n some is = omega (arith, some, is)

  -- who has a number is a writer of the model
  pub writes : 0 < me → seat.t.writer ≡ true
  writes some = known seat.t.writer (λ yes. yes) (λ no. absurd (none_below me some ((next.world.keeps.walks.scene.begun.drawn s seat.t seat.session seat.is_t seat.at).reader no)))

  -- and who has none is a reader
  pub reads : me ≡ 0 → seat.t.writer ≡ false
  reads none = known seat.t.writer (λ yes. absurd (none_below me ((next.world.keeps.walks.scene.begun.drawn s seat.t seat.session seat.is_t seat.at).writer yes) none)) (λ no. no)

  pub ends : me ≡ 0 → Allowed state s act.Ask st.Commit reply.ReadOnly
  ends none = inl (sym (ap (λ o. reply_from state s o act.Ask st.Commit) seat.is_t ∙ ap (λ x. cond x (reply.Asked k) reply.ReadOnly) (reads none)))

  pub asks : 0 < me → Allowed state s act.Ask st.Commit (reply.Asked k)
  asks some = inl (sym (ap (λ o. reply_from state s o act.Ask st.Commit) seat.is_t ∙ ap (λ x. cond x (reply.Asked k) reply.ReadOnly) (writes some)))

  -- as many have asked as the run has commits
  pub many_asked : length old.numbers.commits ≡ length state.asked
  many_asked = sym (ap (λ (r : Run). length r.commits) next.world.run_is) ∙ next.world.keeps.walks.scene.shown.paged.shows.counted

  module _ (more : List Fact) (idle : w.facts s ≡ facts_idle ++ more) (new : TxnsHeld) (run_now : record w.run { commits = w.run.commits ++ me ∷ [] } ≡ run_of new)
      (pages : site_of b.now ≡ site_after me Commits (site_of a.now)) where
    abbrev now : SessionsHeld
    now = record { txns = new; locks = locks }

    abbrev asked_t : Transaction
    asked_t = record seat.t { asked = Some k }

    abbrev asked_state : State
    asked_state = with_transaction s asked_t (record state { asked = state.asked ++ seat.t.own ∷ [] })

    abbrev v : Mind
    v = telling next.e act.Ask (reply.Asked k) w (record (carrying s more w) { run = (asked_scene seat).run })

    is_state : state_now c v ≡ asked_state
    is_state = told_state g c opened a b h s st.Commit 0 next act.Ask (reply.Asked k) v refl ∙ ap (λ o. next_from state s o act.Ask (Some st.Commit) (reply.Asked k)) seat.is_t

    alike : (r : ℕ) → AreAlike (transaction_of state r) (transaction_of asked_state r)
    alike r = known (r == s)
        (λ one. subst (λ q. AreAlike (transaction_of state q) (transaction_of asked_state q)) (sym (eqb-true r s one))
        (subst (λ o. AreAlike o (transaction_of asked_state s)) (sym seat.is_t) (subst (λ o. AreAlike (Some seat.t) o) (sym (find-put-same s asked_t state.sessions)) (record { uses = λ name. refl; holds = refl; locks = refl }))))
        (λ two. subst (AreAlike (transaction_of state r)) (sym (find-put-other r s asked_t state.sessions two)) (alike_itself (transaction_of state r)))

    same_title : (e : ℕ) → (area_in b.now).title e ≡ (area_in a.now).title e
    same_title e = ap (λ (z : Site). z.area.title e) pages

    same_name_of : names_in b.now ≡ names_in a.now
    same_name_of = λ i e. (same_title e i).name

    facts_its : (r : ℕ) → (r == s) ≡ true → v.facts r ≡ more
    facts_its r one = ap (λ x. cond x more (w.facts r)) one

    facts_others : (r : ℕ) → (r == s) ≡ false → v.facts r ≡ w.facts r
    facts_others r two = ap (λ x. cond x more (w.facts r)) two

    tables_now : AreInTables b.now locks asked_state v.facts
    tables_now r e key u is at = known (r == s)
        (λ one.
        let q = eqb-true r s one in
        let t_is = some_is asked_t u (sym (find-put-same s asked_t state.sessions) ∙ ap (transaction_of asked_state) (sym q) ∙ at) in
        in_table_still a.now b.now e seat.t u (w.facts r) (v.facts r) (same_title e) (λ n is. ap (λ (t : Transaction). has_name n t.holds) (sym t_is) ∙ is)
        (λ in_. subst (λ l. IsAmong (HasTable e ((area_in a.now).title e)) l) (sym (facts_its r one))
        (table_of_more e ((area_in a.now).title e) more (w.facts s) idle (subst (λ n. IsAmong (HasTable e ((area_in a.now).title e)) (w.facts n)) q in_)))
        (next.world.tables r e key seat.t is (ap (transaction_of state) q ∙ seat.is_t)))
        (λ two. in_table_still a.now b.now e u u (w.facts r) (v.facts r) (same_title e) (λ n is. is)
        (λ in_. subst (λ l. IsAmong (HasTable e ((area_in a.now).title e)) l) (sym (facts_others r two)) in_)
        (next.world.tables r e key u is (sym (find-put-other r s asked_t state.sessions two) ∙ at)))

    pub asked_told : AreTables more → KeepsWorld g c opened b v → IsActTold next now act.Ask (reply.Asked k)
    asked_told tables keeps = record {
      mind = v;
      world = record {
        keeps = keeps;
        run_is = run_now;
        locks = subst (λ n. ShowsKeyLocks n locks (state_now c v)) (sym same_name_of)
            (subst (λ (q : State). ShowsKeyLocks (names_in a.now) locks q) (sym is_state) (shows_alike (names_in a.now) locks state asked_state alike next.world.locks));
        tables = subst (λ (q : State). AreInTables b.now locks q v.facts) (sym is_state) tables_now;
        in_order = subst AreInOrder (sym is_state) (put_in_order s asked_t (record state { asked = state.asked ++ seat.t.own ∷ [] }) next.world.in_order);
      };
      tape = refl;
      undo = refl;
      names = λ e there. ap (λ (n : ℕ → List ℕ). n e) same_name_of;
      others = facts_others;
      counts = subst AreTables (sym (facts_its s (eq-eqb s s refl))) tables;
    }

-- who is in no transaction is refused
pub refused_outside : {D : Type 0} (g : Ghosts D) (c : Start) (opened : D) (a b : View D) (h : SessionsHeld) (s : ℕ) (next : IsNextOf g c opened a b h s st.Commit 0)
    → transaction_of (state_now c next.mind) s ≡ None → Allowed (state_now c next.mind) s act.Ask st.Commit (reply.Refused refusal.NoTransaction)
refused_outside g c opened a b h s next none = inl (sym (ap (λ o. reply_from (state_now c next.mind) s o act.Ask st.Commit) none))

-- a session that is in a transaction writes or reads, where it hasn't asked
pub in_neither : (s : ℕ) (a : TxnsHeld) → ((t : TxnHeld) → txn_of s a ≡ Some t → t.asked ≡ None) → (IsWriting s a → ⊥) → (IsReading s a → ⊥) → txn_of s a ≡ None
in_neither s a unasked writes reads = elim (txn_of s a) as (λ (o : Option TxnHeld). txn_of s a ≡ o → o ≡ None) [
  | None ↦ λ is. refl
  | Some t ↦ λ is. ⊎_elim
      (λ none. absurd (reads (record { t = t; there = is; none = none })))
      (λ some. absurd (writes (record { t = t; there = is; some = some; unasked = unasked t is })))
      (none_or_some t.session.me)
] refl
