-- Who is within a rollback stays at its ROLLBACK, until that is answered.
use Rattle.std.proofs.Common.{◌≡◌, ◌⊎◌, ⊎_elim, inl, inr, ℕ, zero, suc, ◌+◌, ◌==◌, true, false, List, [], ◌∷◌, Option, Some, None, refl, sym, ◌∙◌, ap, subst}
use Rattle.std.specs.Prelude.{is_some, slice_get, unwrap_or}
use Rattle.std.specs.Ordering.{nat_cmp}
use Rattle.std.specs.FinMap.Entries.{find}
use Rattle.std.proofs.lemmas.Bool.{false≢true, eqb-true}
use Rattle.ctr_types.specs.declared.statement.Line.{Line}
use Rattle.ctr_types.specs.declared.statement.Statement.{Statement}
use Rattle.ctr_types.specs.declared.statement.Statement.TheVariants as st
use Rattle.ctr_types.specs.declared.tape.Act.{Act}
use Rattle.ctr_types.specs.declared.tape.Act.TheVariants as act
use Rattle.ctr_types.specs.declared.tape.Entry.{Entry}
use Rattle.ctr_types.specs.declared.tape.Reply.{Reply}
use Rattle.ctr_types.specs.declared.tape.Reply.TheVariants as reply
use Rattle.ctr_model.specs.declared.state.State.{State}
use Rattle.ctr_model.specs.declared.state.Transaction.{Transaction}
use Rattle.ctr_model.specs.declared.tape.Point.{Point}
use Rattle.ctr_model.specs.declared.tape.Progress.{Progress}
use Rattle.ctr_model.specs.Reply.{reply_from, MayStandFor}
use Rattle.ctr_model.specs.State.{transaction_of}
use Rattle.ctr_model.specs.Tape.{statement_of, acts_of, progress_of, advanced, Comes, IsActOf, Allowed, passed, passed_by}
use Rattle.ctr_model.proofs.Sessions.{find-put-other}
use Rattle.ctr_versions.proofs.Keys.{known, some_is}
use Rattle.ctr_versions.specs.Engine.{SessionHeld}
use Rattle.ctr_paged.specs.Paged.{Run}
use Rattle.ctr_kept.specs.Walk.{IsAtRollback, AreAtRollback}

-- a ROLLBACK has one act
only_act : (n : ℕ) (a : Act) → slice_get (act.Rollback ∷ []) n ≡ Some a → act.Rollback ≡ a
only_act zero a is = some_is act.Rollback a is
only_act (suc zero) a is = absurd (cc is)
only_act (suc (suc n)) a is = absurd (cc is)

-- in a transaction it is answered, and not refused
pub rolled_back : (state : State) (s : ℕ) (me : Transaction) (r : Reply) → transaction_of state s ≡ Some me → Allowed state s act.Rollback st.Rollback r → r ≡ reply.RolledBack
rolled_back state s me r is_me allowed =
    let By : Option Transaction → Type 0 = λ o. (r ≡ reply_from state s o act.Rollback st.Rollback) ⊎ MayStandFor st.Rollback (reply_from state s o act.Rollback st.Rollback) r in
    ⊎_elim (λ is. is) (λ none. absurd none) (subst By is_me allowed)

module _ (lines : List Line) (p : Point) (e : Entry) (comes : Comes lines p e) where
  apart_by : (o : Option Statement) (r : ℕ) → (r == e.session) ≡ false → progress_of (passed_by o p e) r ≡ progress_of p r
  apart_by None r two = refl
  apart_by (Some s) r two = ap (λ o. unwrap_or o (record { finished = 0; made = 0 })) (find-put-other r e.session (advanced (acts_of p.state e.session s) e.reply (progress_of p e.session)) p.progress two)

  -- whose entry it isn't
  rolls_apart : (r : ℕ) → (r == e.session) ≡ false → IsAtRollback lines p r → IsAtRollback lines (passed lines p e) r
  rolls_apart r two is = ap (λ (g : Progress). statement_of lines r (g.finished + 1)) (apart_by (statement_of lines e.session e.statement) r two) ∙ is

  -- whose it is, and of a statement: it is the answer to the ROLLBACK
  pub rolls_answer : (s : Statement) → statement_of lines e.session e.statement ≡ Some s → IsAtRollback lines p e.session → (act.Rollback ≡ e.act) × Allowed p.state e.session act.Rollback st.Rollback e.reply
  rolls_answer s named is = ⊎_elim
      (λ next. answered next.0 next.1 next.2)
      (λ release. absurd (false≢true (ap is_some (sym (ap (λ n. statement_of lines e.session n) release.statement) ∙ named))))
      comes.one_of
    where
      answered : (t : Statement) → statement_of lines e.session e.statement ≡ Some t → IsActOf t p e → (act.Rollback ≡ e.act) × Allowed p.state e.session act.Rollback st.Rollback e.reply
      answered t its of =
          let same : st.Rollback ≡ t = some_is st.Rollback t (sym is ∙ ap (statement_of lines e.session) (sym of.number) ∙ its) in
          let act_is = only_act (progress_of p e.session).made e.act (subst (λ u. slice_get (acts_of p.state e.session u) (progress_of p e.session).made ≡ Some e.act) (sym same) of.next_act) in
          (act_is, subst (λ u. Allowed p.state e.session act.Rollback u e.reply) (sym same) (subst (λ a. Allowed p.state e.session a t e.reply) (sym act_is) of.allowed))

  -- or it is recovery's
  pub rolls_or_answered : IsAtRollback lines p e.session → IsAtRollback lines (passed lines p e) e.session ⊎ ((act.Rollback ≡ e.act) × Allowed p.state e.session act.Rollback st.Rollback e.reply)
  rolls_or_answered is = ⊎_elim
      (λ next. inr (rolls_answer next.0 next.1 is))
      (λ release. inl (subst (λ n. IsAtRollback lines (passed_by (statement_of lines e.session n) p e) e.session) (sym release.statement) is))
      comes.one_of

  rolls_stay : (act.Rollback ≡ e.act → ⊥) → IsAtRollback lines p e.session → IsAtRollback lines (passed lines p e) e.session
  rolls_stay other is = ⊎_elim (λ still. still) (λ answered. absurd (other answered.0)) (rolls_or_answered is)

  -- one session moves: what is to be shown of it is that it stays at its ROLLBACK, where it is within it
  pub rolls_moved : (was now : Run) → AreAtRollback lines p was → ((r : ℕ) → (r == e.session) ≡ false → find nat_cmp r now.sessions ≡ find nat_cmp r was.sessions)
      → ((b : SessionHeld) → find nat_cmp e.session now.sessions ≡ Some b → b.undoing ≡ true → IsAtRollback lines (passed lines p e) e.session) → AreAtRollback lines (passed lines p e) now
  rolls_moved was now are others here r b at undoing = known (r == e.session)
      (λ one. let q = eqb-true r e.session one in subst (IsAtRollback lines (passed lines p e)) (sym q) (here b (ap (λ x. find nat_cmp x now.sessions) (sym q) ∙ at) undoing))
      (λ two. rolls_apart r two (are r b (sym (others r two) ∙ at) undoing))

  -- it is within it still, and no ROLLBACK was answered
  pub rolls_on : (was now : Run) → AreAtRollback lines p was → ((r : ℕ) → (r == e.session) ≡ false → find nat_cmp r now.sessions ≡ find nat_cmp r was.sessions)
      → ((b : SessionHeld) → find nat_cmp e.session now.sessions ≡ Some b → b.undoing ≡ true → (c : SessionHeld) × (find nat_cmp e.session was.sessions ≡ Some c) × (c.undoing ≡ true))
      → (act.Rollback ≡ e.act → ⊥) → AreAtRollback lines (passed lines p e) now
  rolls_on was now are others here other = rolls_moved was now are others (λ b at undoing. let c = here b at undoing in rolls_stay other (are e.session c.0 c.1 c.2))

  -- all sessions are held as they were
  pub rolls_same : (was : Run) → AreAtRollback lines p was → (act.Rollback ≡ e.act → ⊥) → AreAtRollback lines (passed lines p e) was
  rolls_same was are other = rolls_on was was are (λ r two. refl) (λ b at undoing. (b, at, undoing)) other
