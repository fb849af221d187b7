use Rattle.std.proofs.Common.{[], ◌∷◌, ◌++◌, sym, ◌∙◌, ap, subst}
use Rattle.std.proofs.lemmas.List.{append-nil}
use Rattle.ctr_model.specs.Tape.{statement_of, final}
use Rattle.ctr_model.specs.declared.tape.Point.{Point}
use Rattle.ctr_legal.proofs.Reached.{final_push}
use Rattle.ctr_views.specs.actions_Sites.{site_of}
use Rattle.ctr_rollback.specs.kept_Turns.{KeepsRun, start_point, state_now}
use Rattle.ctr_rollback.proofs.Worlds.{no_answer}
use Rattle.ctr_told.proofs.entries.an_entry_alone_is_kept.Goals as goal

pub returns : goal.returns
returns g c = λ run opened a b w v e world longer walked is none answers counts rested.
    let state = state_now run w in
    let grown = c.states_grow.ensures state e.session e.act (statement_of run.lines e.session e.statement) e.reply in
    let asked = ap (λ l. (final run.lines (start_point run) l).state.asked) longer
    ∙ ap (λ (p : Point). p.state.asked) (final_push run.lines (start_point run) w.tape e)
    ∙ grown.asked ∙ ap (λ l. state.asked ++ l) none ∙ append-nil state.asked in
    let walks = subst (λ n. KeepsRun run n (site_of b.now) v) is (subst (λ t. KeepsRun run e.moment (site_of t) v) (sym rested.logs.now) walked) in
    c.a_turn_of_a_world_is_kept.ensures.none run opened a b w v (e ∷ []) world longer walks (record { at = (is, tt); none = no_answer w.tape e answers }) asked counts rested.front rested.rests rested.logs
