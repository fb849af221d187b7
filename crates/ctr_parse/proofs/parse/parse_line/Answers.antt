use Rattle.ctr_model.specs.Language.{SpellsLine}
use Rattle.ctr_parse.proofs.OnePlace.{decided}
use Rattle.ctr_parse.proofs.parse.parse_line.Goals as goal

pub returns-clause-only : goal.returns-clause-only
returns-clause-only c =
    decided SpellsLine c.args.line.now c.line_of.result (c.one_reading.ensures.line.said c.args.line.now) (c.one_reading.ensures.line.place c.args.line.now) (c.one_reading.ensures.line.never_both c.args.line.now) c.line_of.ensures
