use Rattle.std.proofs.Common.{sym}
use Rattle.ctr_parse.proofs.Numerals.{none_beyond}
use Rattle.ctr_parse.proofs.numeral.int_of.Goals as goal

pub returns-in_default : goal.returns-in_default
returns-in_default c = sym (none_beyond c.args.token.now c.in_default.ensures.cases.0)
