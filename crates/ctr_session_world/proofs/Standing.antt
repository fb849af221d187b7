-- A session whose next statement is known: what its transaction is, and what state an entry leaves.
use Rattle.std.proofs.Common.{◌≡◌, inl, ℕ, ◌≤◌, true, false, [], ◌∷◌, ◌++◌, Option, Some, None, refl, sym, ◌∙◌, ap, subst, arith}
use Rattle.std.proofs.lemmas.Bool.{false≢true}
use Rattle.std.specs.Prelude.{is_some, slice_get}
use Rattle.std.specs.Option.{option_map}
use Rattle.std.specs.Ordering.{nat_cmp}
use Rattle.std.specs.FinMap.Entries.{find}
use Rattle.ctr_disk.specs.declared.disk.Disk.{Ghosts}
use Rattle.ctr_types.specs.declared.statement.Statement.{Statement}
use Rattle.ctr_types.specs.declared.tape.Act.{Act}
use Rattle.ctr_types.specs.declared.tape.Reply.{Reply}
use Rattle.ctr_types.specs.declared.tape.Reply.TheVariants as reply
use Rattle.ctr_types.specs.declared.tape.Refusal.{Refusal}
use Rattle.ctr_model.specs.declared.state.State.{State}
use Rattle.ctr_model.specs.declared.state.Transaction.{Transaction}
use Rattle.ctr_model.specs.declared.tape.Point.{Point}
use Rattle.ctr_model.specs.Reply.{next_from, next_state}
use Rattle.ctr_model.specs.State.{transaction_of}
use Rattle.ctr_model.specs.Tape.{acts_of, final, Allowed, IsActOf, IsInTurn}
use Rattle.ctr_legal.proofs.Reached.{final_push}
use Rattle.ctr_told.specs.store_Store.{View}
use Rattle.ctr_told.specs.kept_Walk.{Mind}
use Rattle.ctr_told.specs.kept_Turns.{Start, InTransaction, MayCome, entry_of, point_now, start_point, state_now}
use Rattle.ctr_told.specs.paged_Paged.{Run}
use Rattle.ctr_told.specs.txn_Held.{TxnHeld, TxnsHeld, IsOneOfEight, run_of, txn_of}
use Rattle.ctr_session_world.specs.World.{SessionsHeld}
use Rattle.ctr_session_world.specs.Told.{IsNextOf}

pub further : (i j k : ℕ) → i ≤ j → j ≤ k → i ≤ k
further i j k p q = omega (arith, p, q)

-- what is there is something
pub some_of : {A : Type 0} (o : Option A) → is_some o ≡ true → (t : A) × (o ≡ Some t)
some_of None is = absurd (false≢true is)
some_of (Some t) is = (t, refl)

-- and what isn't there is nothing
pub none_there : {A : Type 0} (o : Option A) → is_some o ≡ false → o ≡ None
none_there None is = refl
none_there (Some t) is = absurd (false≢true (sym is))

-- the run has each session as its transaction has it
abbrev pub RunFinds : Type 0
RunFinds = (s : ℕ) (a : TxnsHeld) → IsOneOfEight s → find nat_cmp s (run_of a).sessions ≡ option_map (λ (t : TxnHeld). t.session) (txn_of s a)

-- what a refusal leaves
pub refused_state : (state : State) (s : ℕ) (x : Act) (statement : Option Statement) (why : Refusal) → next_state state s x statement (reply.Refused why) ≡ state
refused_state state s x statement why = elim (transaction_of state s) as (λ (o : Option Transaction). next_from state s o x statement (reply.Refused why) ≡ state) [ Some t ↦ refl | None ↦ refl ]

module _ {D : Type 0} (g : Ghosts D) (c : Start) (opened : D) (a b : View D) (h : SessionsHeld) (s : ℕ) (statement : Statement) (made : ℕ) (next : IsNextOf g c opened a b h s statement made) where
  abbrev w : Mind
  w = next.mind

  abbrev state : State
  state = state_now c w

  -- its next act may come, with a reply that is allowed
  pub comes : (x : Act) (r : Reply) → slice_get (acts_of state s statement) made ≡ Some x → IsInTurn state s x → Allowed state s x statement r → MayCome c w next.e x r
  comes x r next_act in_turn allowed = record {
    later = further (point_now c w).moment (g.moment_of a.disk) next.e.later next.world.keeps.walks.later next.e.in_call;
    one_of = inl (
      next.e.statement,
      next.e.is_it,
      subst (λ (t : Statement). IsActOf t (point_now c w) (entry_of s next.e x r)) (sym next.is) (record {
        number = next.number;
        next_act = ap (slice_get (acts_of state s statement)) next.made_is ∙ next_act;
        in_turn = in_turn;
        allowed = allowed;
      }),
    );
  }

  -- the state behind its entry
  pub told_state : (x : Act) (r : Reply) (v : Mind) → v.tape ≡ w.tape ++ entry_of s next.e x r ∷ [] → state_now c v ≡ next_state state s x (Some statement) r
  told_state x r v longer =
      ap (λ l. (final c.lines (start_point c) l).state) longer
      ∙ ap (λ (p : Point). p.state) (final_push c.lines (start_point c) w.tape (entry_of s next.e x r))
      ∙ ap (λ o. next_state state s x o r) (next.e.is_it ∙ ap Some next.is)

  module _ (finds : RunFinds) (one : IsOneOfEight s) where
    run_finds : find nat_cmp s w.run.sessions ≡ option_map (λ (t : TxnHeld). t.session) (txn_of s h.txns)
    run_finds = ap (λ (r : Run). find nat_cmp s r.sessions) next.world.run_is ∙ finds s h.txns one

    -- who has a transaction is in one of the model
    pub seat_of : (t : TxnHeld) → txn_of s h.txns ≡ Some t → (seat : InTransaction c w s) × (seat.session ≡ t.session)
    seat_of t is =
        let at = run_finds ∙ ap (option_map (λ (t : TxnHeld). t.session)) is in
        let its = next.world.keeps.walks.scene.shown.paged.modelled s t.session at in
        (record { session = t.session; t = its.0; at = at; is_t = its.1 }, refl)

    -- who has none is in none
    pub none_of : txn_of s h.txns ≡ None → transaction_of state s ≡ None
    none_of none = elim (transaction_of state s) as (λ (o : Option Transaction). transaction_of state s ≡ o → o ≡ None) [
      | None ↦ λ is. refl
      | Some u ↦ λ is.
          let its = next.world.keeps.walks.scene.shown.paged.shows.inside s u is in
          absurd (false≢true (ap is_some (sym (run_finds ∙ ap (option_map (λ (t : TxnHeld). t.session)) none) ∙ its.1)))
    ] refl
