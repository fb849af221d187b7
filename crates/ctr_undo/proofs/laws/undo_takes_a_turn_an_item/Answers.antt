use Rattle.ctr_undo.proofs.Lists.{one_less, turns_left, all_turns}
use Rattle.ctr_undo.proofs.laws.undo_takes_a_turn_an_item.Goals as goal

pub returns-clause-one : goal.returns-clause-one
returns-clause-one c = λ item u v goes. one_less item u v goes

pub returns-clause-left : goal.returns-clause-left
returns-clause-left c = λ n u v leads. turns_left n u v leads

pub returns-clause-all : goal.returns-clause-all
returns-clause-all c = λ n u v leads over. all_turns n u v leads over
