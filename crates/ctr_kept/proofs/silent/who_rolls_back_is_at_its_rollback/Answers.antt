use Rattle.std.proofs.Common.{sym}
use Rattle.ctr_kept.specs.Turns.{point_now, state_now, entry_of}
use Rattle.ctr_kept.proofs.Rolling.{rolls_answer, rolled_back}
use Rattle.ctr_kept.proofs.silent.who_rolls_back_is_at_its_rollback.Goals as goal

pub returns-clause-at : goal.returns-clause-at
returns-clause-at c = λ r now s site w seat keeps undoing. keeps.rolls s seat.session seat.at undoing

pub returns-clause-next : goal.returns-clause-next
returns-clause-next c = λ run now s site w seat e a r keeps undoing comes.
    let answer = rolls_answer run.lines (point_now run w) (entry_of s e a r) comes e.statement e.is_it (keeps.rolls s seat.session seat.at undoing) in
    (sym answer.0, rolled_back (state_now run w) s seat.t r seat.is_t answer.1)
