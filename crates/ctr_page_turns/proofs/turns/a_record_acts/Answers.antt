use Rattle.ctr_page_turns.proofs.Acting.{acts_so}
use Rattle.ctr_page_turns.proofs.turns.a_record_acts.Goals as goal

pub returns : goal.returns
returns g c = λ x a r v w. acts_so x a r v w
