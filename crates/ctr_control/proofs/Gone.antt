-- A transaction ends in a World: it is gone with its locks.
use Rattle.std.proofs.Common.{◌≡◌, ℕ, ◌==◌, false, cond, List, [], Some, refl, sym, ◌∙◌, ap, subst}
use Rattle.std.proofs.lemmas.Bool.{false≢true, eqb-true}
use Rattle.std.specs.Prelude.{is_some}
use Rattle.std.specs.Ordering.{nat_cmp}
use Rattle.ctr_writing.proofs.ctr_session_world.Alike.{in_table_still, gone_in_order}
use Rattle.ctr_disk.specs.declared.disk.Disk.{Ghosts}
use Rattle.ctr_types.specs.declared.statement.Statement.{Statement}
use Rattle.ctr_types.specs.declared.tape.Act.{Act}
use Rattle.ctr_types.specs.declared.tape.Reply.{Reply}
use Rattle.ctr_model.specs.declared.state.State.{State}
use Rattle.ctr_model.specs.Maps.{without}
use Rattle.ctr_model.specs.Reply.{next_state}
use Rattle.ctr_model.specs.State.{transaction_of, without_transaction}
use Rattle.ctr_model.proofs.Sessions.{find-without-other, find-without-same}
use Rattle.ctr_versions.proofs.Keys.{known}
use Rattle.ctr_record_effects.specs.States.{area_in}
use Rattle.ctr_store.specs.Store.{View}
use Rattle.ctr_locks.specs.Held.{LocksOfSession, FreesAll, OfSession, locks_key}
use Rattle.ctr_locks.specs.Shows.{ShowsKeyLocks, ReleaseLeavesLocks}
use Rattle.ctr_writing.specs.ctr_session_world.kept_Walk.{Mind}
use Rattle.ctr_writing.specs.ctr_session_world.kept_Turns.{Start, gone_mind, state_now, telling}
use Rattle.ctr_writing.specs.ctr_session_world.stops_World.{KeepsWorld}
use Rattle.ctr_writing.specs.ctr_session_world.paged_Paged.{Run}
use Rattle.ctr_writing.specs.ctr_session_world.txn_Held.{TxnsHeld, run_of}
use Rattle.ctr_writing.specs.ctr_session_world.World.{IsInTable, AreInTables, names_in, AreInOrder}
use Rattle.ctr_writing.specs.ctr_session_world.Told.{CountsBehindReply, IsNextOf, IsActTold}
use Rattle.ctr_writing.proofs.ctr_session_world.Standing.{told_state}

module _ {D : Type 0} (g : Ghosts D) (c : Start) (opened : D) (a b : View D) (old new : TxnsHeld) (locks left : List (ℕ × LocksOfSession)) (s : ℕ) (statement : Statement) (made : ℕ)
    (next : IsNextOf g c opened a b (record { txns = old; locks = locks }) s statement made) (x : Act) (r : Reply) where
  abbrev w : Mind
  w = next.mind

  abbrev state : State
  state = state_now c w

  abbrev v : Mind
  v = telling next.e x r w (gone_mind s w)

  module _ (run_now : run_of new ≡ record (run_of old) { commits = (run_of old).commits; sessions = without nat_cmp s (run_of old).sessions }) (frees : OfSession s FreesAll locks left) (shows : ReleaseLeavesLocks)
      (is_next : next_state state s x (Some statement) r ≡ without_transaction s state) (same_title : (e : ℕ) → (area_in b.now).title e ≡ (area_in a.now).title e) where
    same_name_of : names_in b.now ≡ names_in a.now
    same_name_of = λ i e. (same_title e i).name

    facts_others : (q : ℕ) → (q == s) ≡ false → v.facts q ≡ w.facts q
    facts_others q two = ap (λ x. cond x [] (w.facts q)) two

    tables_now : AreInTables b.now left (without_transaction s state) v.facts
    tables_now q e key u is at = known (q == s)
        (λ one. absurd (false≢true (ap is_some (sym (find-without-same s state.sessions) ∙ ap (transaction_of (without_transaction s state)) (sym (eqb-true q s one)) ∙ at))))
        (λ two. subst (λ l. IsInTable b.now e u l) (sym (facts_others q two))
        (in_table_still a.now b.now e u u (w.facts q) (w.facts q) (same_title e) (λ n is. is) (λ in_. in_)
        (next.world.tables q e key u (ap (locks_key e key) (sym (frees.others q two)) ∙ is) (sym (find-without-other q s state.sessions two) ∙ at))))

    pub gone_told : CountsBehindReply r (w.facts s) (v.facts s) → KeepsWorld g c opened b v → IsActTold next (record { txns = new; locks = left }) x r
    gone_told counts keeps =
        let is_state = told_state g c opened a b (record { txns = old; locks = locks }) s statement made next x r v refl ∙ is_next in
        record {
          mind = v;
          world = record {
            keeps = keeps;
            run_is = ap (λ (r : Run). record r { sessions = without nat_cmp s r.sessions }) next.world.run_is ∙ sym run_now;
            locks = subst (λ n. ShowsKeyLocks n left (state_now c v)) (sym same_name_of)
                (subst (λ (q : State). ShowsKeyLocks (names_in a.now) left q) (sym is_state) (shows (names_in a.now) s locks left state frees next.world.locks));
            tables = subst (λ (q : State). AreInTables b.now left q v.facts) (sym is_state) tables_now;
            in_order = subst AreInOrder (sym is_state) (gone_in_order s state next.world.in_order);
          };
          tape = refl;
          undo = refl;
          names = λ e there. ap (λ (n : ℕ → List ℕ). n e) same_name_of;
          others = facts_others;
          counts = counts;
        }
