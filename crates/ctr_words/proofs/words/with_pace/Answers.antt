use Rattle.std.proofs.Common.{◌∙◌, ap, ap₂}
use Rattle.std.specs.Prelude.{◌||◌}
use Rattle.std.proofs.lemmas.Result.{IfOk-weaker}
use Rattle.clap.specs.Words.{app_of, with_rule}
use Rattle.ctr_words.proofs.words.with_pace.Goals as goal

pub returns : goal.returns
returns c =
    let beside = c.in_ok-beside.ensures.shape c.threads_option.ensures.1 ∙ ap (with_rule (app_of c.args.over)) c.threads_option.ensures.0 in
    let paced = c.in_ok-paced.ensures.shape c.frames_option.ensures.1 ∙ ap₂ with_rule beside c.frames_option.ensures.0 in
    IfOk-weaker c.arg-3.result _ _ (λ made adds. (
      adds.shape c.keys_option.ensures.1 ∙ ap₂ with_rule paced c.keys_option.ensures.0,
      λ local.
          let local_beside = c.in_ok-beside.ensures.globals ∙ ap₂ (λ x y. x || y) local c.threads_option.ensures.1 in
          let local_paced = c.in_ok-paced.ensures.globals ∙ ap₂ (λ x y. x || y) local_beside c.frames_option.ensures.1 in
          adds.globals ∙ ap₂ (λ x y. x || y) local_paced c.keys_option.ensures.1,
    )) c.arg-3.ensures
