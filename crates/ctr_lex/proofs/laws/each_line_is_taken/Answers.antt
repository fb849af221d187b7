use Rattle.ctr_lex.proofs.Total.{each_taken}
use Rattle.ctr_lex.proofs.laws.each_line_is_taken.Goals as goal

pub returns : goal.returns
returns c = each_taken
