use Rattle.ctr_page_turns.proofs.Telling.{told_one, told_logged, told_read, told_grown}
use Rattle.ctr_page_turns.proofs.numbers.a_turn_is_told_by_its_number.Goals as goal

pub returns-clause-logged : goal.returns-clause-logged
returns-clause-logged g c = λ first u v x. told_logged first g.D.Disk u v x

pub returns-clause-read : goal.returns-clause-read
returns-clause-read g c = λ first u v x. told_read first g.D.Disk u v x

pub returns-clause-grown : goal.returns-clause-grown
returns-clause-grown g c = λ first u v x. told_grown first g.D.Disk u v x

pub returns-clause-one : goal.returns-clause-one
returns-clause-one g c = λ first u v x. told_one first g.D.Disk u v x
