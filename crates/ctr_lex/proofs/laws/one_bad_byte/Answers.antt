use Rattle.ctr_lex.proofs.Fronts.{bad_one, bad_none}
use Rattle.ctr_lex.proofs.laws.one_bad_byte.Goals as goal

pub returns : goal.returns
returns c = record { one = bad_one; none = λ line ts us i. bad_none line ts us i }
