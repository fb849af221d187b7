use Rattle.ctr_lex.proofs.Lexing.{lexes_one}
use Rattle.ctr_lex.proofs.laws.one_lexing.Goals as goal

pub returns : goal.returns
returns c = lexes_one
