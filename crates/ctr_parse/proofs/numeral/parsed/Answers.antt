use Rattle.std.proofs.Common.{◌∙◌}
use Rattle.ctr_parse.proofs.Numerals.{parsed_is}
use Rattle.ctr_parse.proofs.numeral.parsed.Goals as goal

pub returns : goal.returns
returns c = c.ok.ensures.value ∙ parsed_is c.args.text.now c.parse.result c.parse.ensures.value.0 c.requires
