use Rattle.std.proofs.Common.{◌∙◌, ap, rules, of_calls}
use Rattle.std.specs.Prelude.{not}
use Rattle.std.proofs.lemmas.Fn.{filter_same}
use Rattle.ctr_model.specs.Reply.{without_name}
use Rattle.ctr_model.specs.State.{same_name}
use Rattle.ctr_exec.proofs.releasing.without.Goals as goal

pub returns : goal.returns
returns c =
    c.from_vec.ensures
    ∙ filter_same _ (λ n. not (same_name n c.args.name.now)) _ (λ x b f h. search (rules, of_calls)) _ _ c.retain.ensures.filtered
    ∙ ap (without_name c.args.name.now) c.into_vec-left.ensures
