-- What is known of a session whose act may come next.
use Rattle.std.proofs.Common.{◌≡◌, ⊎_elim, ℕ, [], ◌∷◌, ◌++◌, Option, Some, sym, ◌∙◌, ap, subst}
use Rattle.std.specs.Prelude.{is_some}
use Rattle.std.proofs.lemmas.Bool.{false≢true}
use Rattle.ctr_types.specs.declared.statement.Statement.{Statement}
use Rattle.ctr_types.specs.declared.tape.Act.{Act}
use Rattle.ctr_types.specs.declared.tape.Act.TheVariants as act
use Rattle.ctr_types.specs.declared.tape.Reply.{Reply}
use Rattle.ctr_types.specs.declared.tape.Reply.TheVariants as reply
use Rattle.ctr_model.specs.declared.state.Transaction.{Transaction}
use Rattle.ctr_model.specs.declared.tape.Point.{Point}
use Rattle.ctr_model.specs.Reply.{next_from}
use Rattle.ctr_model.specs.State.{transaction_of}
use Rattle.ctr_model.proofs.Sessions.{find-put-same}
use Rattle.ctr_legal.proofs.Reached.{final_push}
use Rattle.ctr_model.specs.Tape.{statement_of, final, IsActOf}
use Rattle.ctr_versions.proofs.Keys.{some_is}
use Rattle.ctr_legal.specs.Ready.{IsNext, IsReady, IsReached}
use Rattle.ctr_rollback.specs.kept_Walk.{Mind}
use Rattle.ctr_rollback.specs.kept_Turns.{Start, InTransaction, Telling, MayCome, entry_of, start_point, point_now, state_now}

module _ (c : Start) (now s : ℕ) (w : Mind) (e : Telling c now s) (a : Act) (r : Reply) (comes : MayCome c w e a r) where
  -- it is the next act of the statement that is told
  pub act_of : IsActOf e.statement (point_now c w) (entry_of s e a r)
  act_of = ⊎_elim
      (λ next. subst (λ (t : Statement). IsActOf t (point_now c w) (entry_of s e a r)) (some_is next.0 e.statement (sym next.1 ∙ e.is_it)) next.2)
      (λ release. absurd (false≢true (ap is_some (sym (ap (statement_of c.lines s) release.statement) ∙ e.is_it))))
      comes.one_of

  next_act : IsNext c.lines (point_now c w) s e.statement a
  next_act = record {
    given = ap (statement_of c.lines s) (sym act_of.number) ∙ e.is_it;
    next_act = act_of.next_act;
  }

  -- the session is ready for it
  pub is_ready : IsReached c.lines (point_now c w) → (seat : InTransaction c w s) → IsReady (state_now c w) e.statement a (Some seat.t)
  is_ready reached seat = subst (λ (o : Option Transaction). IsReady (state_now c w) e.statement a o) seat.is_t (reached.ready s e.statement a next_act)

  -- once it has asked for its commit it is in its transaction still
  pub asked_now : (k : ℕ) → a ≡ act.Ask → r ≡ reply.Asked k → (seat : InTransaction c w s) (v : Mind) → v.tape ≡ w.tape ++ entry_of s e a r ∷ [] → transaction_of (state_now c v) s ≡ Some (record seat.t { asked = Some k })
  asked_now k asks is seat v longer =
      ap (λ l. transaction_of (final c.lines (start_point c) l).state s) longer
      ∙ ap (λ (p : Point). transaction_of p.state s) (final_push c.lines (start_point c) w.tape (entry_of s e a r))
      ∙ (λ i. transaction_of (next_from (state_now c w) s (seat.is_t i) a (statement_of c.lines s e.n) (is i)) s)
      ∙ find-put-same s (record seat.t { asked = Some k }) (state_now c w).sessions
