use Rattle.std.proofs.Common.{not, ◌∙◌, ap, rules, of_calls}
use Rattle.std.specs.Ordering.{eq_by_cmp}
use Rattle.std.proofs.lemmas.Fn.{filter_same}
use Rattle.ctr_model.specs.Maps.{without}
use Rattle.ctr_model.proofs.map.Map.remove.Goals as goal

pub returns : goal.returns
returns g c =
    filter_same _ (λ e. not (eq_by_cmp g.K.Ord.cmp c.args.key.now e.0)) _ (λ x b f h. search (rules, of_calls)) _ _ c.retain.ensures.filtered ∙ ap (without g.K.Ord.cmp c.args.key.now) c.self.view_is
