use Rattle.std.proofs.Common.{List, ℕ, subst}
use Rattle.ctr_parse.specs.Answers.{IsParsed}
use Rattle.ctr_model.specs.Language.{SpellsStatement}
use Rattle.ctr_parse.proofs.OnePlace.{decided}
use Rattle.ctr_parse.proofs.parse.parse_statement.Goals as goal

pub returns-clause-only : goal.returns-clause-only
returns-clause-only c =
    decided SpellsStatement c.args.text.now c.statement_of.result (c.one_reading.ensures.statement.said c.args.text.now) (c.one_reading.ensures.statement.place c.args.text.now) (c.one_reading.ensures.statement.never_both c.args.text.now) (subst (λ (b : List ℕ). IsParsed SpellsStatement b c.statement_of.result) c.as_bytes.ensures.value c.statement_of.ensures)
