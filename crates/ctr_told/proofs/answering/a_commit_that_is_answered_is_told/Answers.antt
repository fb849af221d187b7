use Rattle.std.proofs.Common.{inl, inr, ◌+◌, ◌<◌, ◌≤◌, ◌==◌, [], ◌∷◌, ◌++◌, length, ℕ, refl, sym, ◌∙◌, ap, subst, arith}
use Rattle.std.proofs.lemmas.Bool.{eqb-true}
use Rattle.std.specs.Prelude.{option_and_then}
use Rattle.ctr_types.specs.declared.tape.Act.TheVariants as act
use Rattle.ctr_types.specs.declared.tape.Reply.TheVariants as reply
use Rattle.ctr_model.specs.declared.state.State.{State}
use Rattle.ctr_model.specs.declared.state.Transaction.{Transaction}
use Rattle.ctr_model.specs.State.{transaction_of}
use Rattle.ctr_model.proofs.Sessions.{find-without-other, find-without-same}
use Rattle.ctr_views.specs.actions_Sites.{site_of}
use Rattle.ctr_redo.specs.States.{State as Stored}
use Rattle.ctr_versions.proofs.Keys.{known}
use Rattle.ctr_rollback.specs.kept_Turns.{AnswersEach, KeepsRun, entry_of, point_now, state_now, telling}
use Rattle.ctr_legal.specs.Laws.{answer_entry}
use Rattle.ctr_rollback.proofs.kept_Answering.{answer_turn}
use Rattle.ctr_rollback.proofs.kept_Walking.{keeps_reached}
use Rattle.ctr_told.specs.Turning.{answered_mind}
use Rattle.ctr_told.proofs.Acting.{act_of}
use Rattle.ctr_told.proofs.Answered.{answer_leaves}
use Rattle.ctr_told.proofs.answering.a_commit_that_is_answered_is_told.Goals as goal

one_more : (n m : ℕ) → n + 1 ≤ m → n < m
one_more n m le = omega (arith, le)

pub returns : goal.returns
returns g c = λ run opened a b w s tells comes rested none.
    let e = tells.e in
    let seat = tells.seat in
    let keeps = tells.keeps.walks in
    let now = g.D.Disk.moment_of a.disk in
    let later = g.D.Disk.moment_of b.disk in
    let site = site_of a.now in
    let state = state_now run w in
    let k = state.answered in
    let r = reply.Answered (k + 1) in
    let entry = entry_of s e act.Answer r in
    let v = telling e act.Answer r w (answered_mind s w) in
    let its = act_of run now s w e act.Answer r comes in
    let asked = sym (ap (option_and_then (λ (me : Transaction). me.asked)) seat.is_t) ∙ its.in_turn in
    let reached = keeps_reached run.lines run.moment run.base run.stuck run.size now site w keeps in
    let waits = one_more k (length state.asked) ((reached.kept.fits s seat.t seat.is_t).number (k + 1) asked) in
    let turn = answer_turn run.lines run.moment run.base run.stuck run.size now site w keeps e.later e.in_call waits in
    let own = c.numbers_are_own.ensures run.lines run.moment run.base run.stuck w.tape keeps.legal in
    let same = known (turn.0 == s)
    (λ one. eqb-true turn.0 s one)
    (λ two. absurd (own.own turn.0 s (k + 1) turn.3.me seat.t two turn.3.there seat.is_t turn.3.asked asked)) in
    let told : KeepsRun run e.later site v = subst (λ n. KeepsRun run e.later site (record (answered_mind s w) { tape = w.tape ++ record { session = s; statement = n; act = act.Answer; reply = r; moment = e.later } ∷ [] })) (sym its.number)
    (subst (λ q. KeepsRun run e.later site (record (answered_mind q w) { tape = w.tape ++ answer_entry (point_now run w) q e.later ∷ [] })) same turn.1) in
    let walks = subst (λ n. KeepsRun run n (site_of b.now) v) tells.at_end (subst (λ (z : Stored). KeepsRun run e.later (site_of z) v) (sym rested.logs.now) told) in
    let leaves = answer_leaves run now s w seat e v refl in
    let each : AnswersEach run later (site_of b.now) w 1 = record {
      mind = v;
      entries = entry ∷ [];
      keeps = walks;
      tape = refl;
      moments = (tells.at_end, tt);
      are_answers = (refl, tt);
      many = refl;
      answered = ap (λ (st : State). st.answered) leaves;
      asked = ap (λ (st : State). st.asked) leaves;
      facts = refl;
      undo = refl;
      commits = refl;
      each = λ q. known (q == s)
          (λ one. let at = eqb-true q s one in
          inr (seat.t, k + 1, ap (transaction_of state) at ∙ seat.is_t, asked, ap (transaction_of (state_now run v)) at ∙ ap (λ (st : State). transaction_of st s) leaves ∙ find-without-same s state.sessions))
          (λ two. inl (ap (λ (st : State). transaction_of st q) leaves ∙ find-without-other q s state.sessions two, find-without-other q s w.run.sessions two));
    } in
    c.answers_and_growth_are_kept.ensures.answers run opened a b w 1 tells.keeps rested.front rested.rests rested.logs none each
