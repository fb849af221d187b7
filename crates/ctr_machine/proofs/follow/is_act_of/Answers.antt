use Rattle.std.proofs.Common.{◌≡◌, ◌+◌, arith, ◌∙◌, ap}
use Rattle.ctr_model.specs.Tape.{progress_of}
use Rattle.ctr_model.specs.declared.tape.Progress.{Progress}
use Rattle.ctr_machine.proofs.Answers.{if_ok_iff}
use Rattle.ctr_machine.proofs.follow.is_act_of.Goals as goal

pub returns : goal.returns
returns c =
    let e = c.args.entry.now in
    let progress = c.progress_of-progress in
    let known : e.statement ≡ progress.result.finished + 1 = omega (arith, c.if-entry-eq0.false, c.if-entry-progress.false) in
    let number : e.statement ≡ (progress_of c.args.point.now e.session).finished + 1 = known ∙ ap (λ (p : Progress). p.finished + 1) progress.ensures in
    if_ok_iff c.is_allowed.result c.is_allowed.ensures
    (λ allowed. record { number = number; next_act = rw (← progress.ensures) (c.is_act_at.ensures.0 c.if-not-is_act_at.false); in_turn = c.is_in_turn.ensures.0 c.if-not-is_in_turn.false; allowed = allowed })
    (λ is. is.allowed)
