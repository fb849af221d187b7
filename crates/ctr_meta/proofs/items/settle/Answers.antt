use Rattle.std.proofs.Common.{not, rules, of_calls}
use Rattle.std.proofs.lemmas.Fn.{filter_same}
use Rattle.ctr_meta.specs.Items.{is_schema_by}
use Rattle.ctr_meta.proofs.items.settle.Goals as goal

pub returns-clause-items : goal.returns-clause-items
returns-clause-items c = filter_same _ (λ i. not (is_schema_by c.args.x i)) _ (λ x b f h. search (rules, of_calls)) _ _ c.retain.ensures.filtered
