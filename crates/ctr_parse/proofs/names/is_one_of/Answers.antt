use Rattle.std.proofs.Common.{◌∙◌, sym, rules, tests, map, List, ℕ, Bor}
use Rattle.std.proofs.lemmas.Iterator.{YieldsList-from_slice}
use Rattle.std.proofs.lemmas.Iterator.Search.{any_from_yields_List}
use Rattle.ctr_model.specs.State.{same_name}
use Rattle.ctr_model.specs.Grammar.{capital}
use Rattle.ctr_parse.proofs.Lists.{list_any-map}
use Rattle.ctr_parse.proofs.names.is_one_of.Goals as goal

pub returns : goal.returns
returns c =
    any_from_yields_List (λ (k : Bor (List ℕ)). same_name k.now (map capital c.args.word.now)) _ _ c.any.result c.any.ensures.ran (YieldsList-from_slice c.args.keywords.now cc) (λ x b q k. search (rules, tests))
    ∙ sym (list_any-map (λ n. same_name n (map capital c.args.word.now)) (λ (k : Bor (List ℕ)). k.now) c.args.keywords.now)
