use Rattle.std.proofs.Common.{◌∙◌, sym, rules, tests}
use Rattle.std.proofs.lemmas.Iterator.{YieldsList-from_slice}
use Rattle.std.proofs.lemmas.Iterator.Search.{any_from_yields_List}
use Rattle.ctr_types.specs.declared.value.Column.{Column}
use Rattle.ctr_model.specs.State.{same_name}
use Rattle.ctr_parse.proofs.Lists.{list_any-map}
use Rattle.ctr_parse.proofs.word.has_name.Goals as goal

pub returns : goal.returns
returns c =
    any_from_yields_List (λ (d : Column). same_name d.name c.args.name.now) _ _ c.any.result c.any.ensures.ran (YieldsList-from_slice c.args.columns.now cc) (λ x b q k. search (rules, tests))
    ∙ sym (list_any-map (λ n. same_name n c.args.name.now) (λ (d : Column). d.name) c.args.columns.now)
