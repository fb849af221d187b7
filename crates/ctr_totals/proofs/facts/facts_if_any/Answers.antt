use Rattle.std.proofs.Common.{Some, sym, subst}
use Rattle.ctr_totals.specs.Facts.{IsKnownIfAny}
use Rattle.ctr_totals.proofs.facts.facts_if_any.Goals as goal

pub returns-in-Some : goal.returns-in-Some
returns-in-Some c = λ key. subst (λ o. IsKnownIfAny key o (Some c.facts_of.result)) (sym c.in-Some.is) (c.facts_of.ensures key)
