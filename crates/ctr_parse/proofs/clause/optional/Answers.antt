use Rattle.std.proofs.Common.{Some, None, sym, subst}
use Rattle.ctr_types.specs.declared.statement.Line.{Line}
use Rattle.ctr_parse.specs.Trees.{Outcome, outcome, Follows, key_is_then, optional_then}
use Rattle.ctr_parse.proofs.clause.optional.Goals as goal

pub returns : goal.returns
unfolding optional_then
returns c = λ k.
    let same = c.in-Some.ensures (key_is_then (λ at. k (Some at))) (k None) in
    subst (λ (o : Outcome Line). Follows (λ x. outcome (k x.0) x.1.now) c.some_key.result o) (sym same) (c.some_key.ensures k)
