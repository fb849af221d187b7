use Rattle.ctr_kept.proofs.Undo.{all_done, some_done}
use Rattle.ctr_kept.proofs.recovery.undo_is_counted.Goals as goal

pub returns-clause-all : goal.returns-clause-all
returns-clause-all c = λ size u counts none. all_done size u counts none

pub returns-clause-some : goal.returns-clause-some
returns-clause-some c = λ size u counts. some_done size u counts
