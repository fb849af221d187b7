-- An act that changes its session's transaction, in a World: what the program has of its sessions is the state that the act leaves.
use Rattle.std.proofs.Common.{◌≡◌, ℕ, ℤ, T, ◌==◌, true, false, cond, List, [], ◌∷◌, ◌++◌, Some, refl, sym, ◌∙◌, ap, subst}
use Rattle.std.proofs.lemmas.Bool.{eq-eqb, eqb-true}
use Rattle.std.specs.Ordering.{nat_cmp}
use Rattle.std.specs.FinMap.Entries.{find, put, is_sorted}
use Rattle.ctr_disk.specs.declared.disk.Disk.{Ghosts}
use Rattle.ctr_types.specs.declared.statement.Statement.{Statement}
use Rattle.ctr_types.specs.declared.tape.Act.{Act}
use Rattle.ctr_types.specs.declared.tape.Reply.{Reply}
use Rattle.ctr_model.specs.declared.state.State.{State}
use Rattle.ctr_model.specs.declared.state.Transaction.{Transaction}
use Rattle.ctr_model.specs.State.{has_name, transaction_of}
use Rattle.ctr_model.proofs.Sessions.{find-put-other, find-put-same}
use Rattle.ctr_versions.proofs.Keys.{known, some_is}
use Rattle.ctr_area.specs.Sound.{IsAmong}
use Rattle.ctr_told.specs.record_effects_States.{area_in}
use Rattle.ctr_told.specs.actions_Facts.{Fact, HasTable}
use Rattle.ctr_told.specs.store_Store.{View}
use Rattle.ctr_locks.specs.Held.{LocksOfSession, held_by_session, locks_key, session_locks}
use Rattle.ctr_locks.specs.Shows.{ShowsKeyLocks}
use Rattle.ctr_told.specs.kept_Walk.{Mind, with_facts}
use Rattle.ctr_told.specs.kept_Turns.{Start, entry_of, state_now}
use Rattle.ctr_told.specs.stops_World.{KeepsWorld}
use Rattle.ctr_told.specs.txn_Held.{TxnsHeld, run_of}
use Rattle.ctr_session_world.specs.World.{SessionsHeld, IsInTable, AreInTables, names_in, AreInOrder}
use Rattle.ctr_session_world.specs.Told.{CountsBehindReply, IsNextOf, IsActTold}
use Rattle.ctr_session_world.proofs.Alike.{in_table_still, put_in_order}

module _ {D : Type 0} (g : Ghosts D) (c : Start) (opened : D) (a b : View D) (h : SessionsHeld) (s : ℕ) (statement : Statement) (made : ℕ) (next : IsNextOf g c opened a b h s statement made) (x : Act) (r : Reply)
    (u : Transaction) (now : State) (sessions : now.sessions ≡ put nat_cmp s u (state_now c next.mind).sessions) (v : Mind) (mine : List Fact) (facts : v.facts ≡ with_facts s mine next.mind.facts) where
  abbrev w : Mind
  w = next.mind

  abbrev state : State
  state = state_now c w

  -- the session is in this transaction now, and the others are in theirs
  pub its : transaction_of now s ≡ Some u
  its = ap (find nat_cmp s) sessions ∙ find-put-same s u state.sessions

  pub theirs : (q : ℕ) → (q == s) ≡ false → transaction_of now q ≡ transaction_of state q
  theirs q two = ap (find nat_cmp q) sessions ∙ find-put-other q s u state.sessions two

  pub facts_its : (q : ℕ) → (q == s) ≡ true → v.facts q ≡ mine
  facts_its q one = ap (λ (f : ℕ → List Fact). f q) facts ∙ ap (λ x. cond x mine (w.facts q)) one

  pub facts_others : (q : ℕ) → (q == s) ≡ false → v.facts q ≡ w.facts q
  facts_others q two = ap (λ (f : ℕ → List Fact). f q) facts ∙ ap (λ x. cond x mine (w.facts q)) two

  pub facts_own : v.facts s ≡ mine
  facts_own = facts_its s (eq-eqb s s refl)

  module _ (left : List (ℕ × LocksOfSession)) (others : (q : ℕ) → (q == s) ≡ false → held_by_session q left ≡ held_by_session q h.locks)
      (same_title : (e : ℕ) → (area_in b.now).title e ≡ (area_in a.now).title e) (own : (e : ℕ) (key : ℤ) → session_locks s e key left ≡ true → IsInTable a.now e u mine) where
    tables_now : AreInTables b.now left now v.facts
    tables_now q e key t is at = known (q == s)
        (λ one.
        let same = eqb-true q s one in
        let t_is = some_is u t (sym its ∙ ap (transaction_of now) (sym same) ∙ at) in
        in_table_still a.now b.now e u t mine (v.facts q) (same_title e) (λ n is. ap (λ (t : Transaction). has_name n t.holds) (sym t_is) ∙ is)
        (λ in_. subst (λ l. IsAmong (HasTable e ((area_in a.now).title e)) l) (sym (facts_its q one)) in_)
        (own e key (subst (λ n. session_locks n e key left ≡ true) same is)))
        (λ two. in_table_still a.now b.now e t t (w.facts q) (v.facts q) (same_title e) (λ n is. is)
        (λ in_. subst (λ l. IsAmong (HasTable e ((area_in a.now).title e)) l) (sym (facts_others q two)) in_)
        (next.world.tables q e key t (sym (ap (locks_key e key) (others q two)) ∙ is) (sym (theirs q two) ∙ at)))

    same_name_of : names_in b.now ≡ names_in a.now
    same_name_of = λ i e. (same_title e i).name

    in_order : AreInOrder now
    in_order = subst (λ (l : List (ℕ × Transaction)). T (is_sorted nat_cmp l)) (sym sessions) (put_in_order s u state next.world.in_order)

    pub changed_told : (new : TxnsHeld) → v.run ≡ run_of new → v.undo ≡ w.undo → v.tape ≡ w.tape ++ entry_of s next.e x r ∷ [] → state_now c v ≡ now → ShowsKeyLocks (names_in a.now) left now
        → CountsBehindReply r (w.facts s) mine → KeepsWorld g c opened b v → (told : IsActTold next (record { txns = new; locks = left }) x r) × (told.mind ≡ v)
    changed_told new run_now undo longer is_state shows counts keeps = (
      record {
        mind = v;
        world = record {
          keeps = keeps;
          run_is = run_now;
          locks = subst (λ n. ShowsKeyLocks n left (state_now c v)) (sym same_name_of) (subst (λ (q : State). ShowsKeyLocks (names_in a.now) left q) (sym is_state) shows);
          tables = subst (λ (q : State). AreInTables b.now left q v.facts) (sym is_state) tables_now;
          in_order = subst AreInOrder (sym is_state) in_order;
        };
        tape = longer;
        undo = undo;
        names = λ e there. ap (λ (n : ℕ → List ℕ). n e) same_name_of;
        others = facts_others;
        counts = subst (λ l. CountsBehindReply r (w.facts s) l) (sym facts_own) counts;
      },
      refl,
    )
