use Rattle.ctr_legal.proofs.Reached.{final_push, legal_push}
use Rattle.ctr_legal.proofs.laws.legal_tapes_grow.Goals as goal

pub returns : goal.returns
returns c = λ lines start tape e legal comes. (legal_push lines start tape e legal comes, final_push lines start tape e)
