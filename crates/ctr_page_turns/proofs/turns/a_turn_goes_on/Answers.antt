use Rattle.ctr_page_turns.specs.Turns.{LogsARecord}
use Rattle.ctr_page_turns.proofs.Going.{turn_ok, turn_fails, turn_lost, turn_unread, turn_grown, turn_behind}
use Rattle.ctr_page_turns.proofs.turns.a_turn_goes_on.Goals as goal

pub returns-clause-behind : goal.returns-clause-behind
returns-clause-behind g c = λ first u v w x result page. turn_behind first g.D.Disk u v w result (λ r. c.pages_read_join.ensures.pages first x u v w r page) (λ m. c.pages_read_join-2.ensures.pages first x u v m _ page) (λ r. c.a_record_behind_a_page.ensures.behind first r u v w x result page)

pub returns-clause-lost : goal.returns-clause-lost
returns-clause-lost g c = λ first u v e page result. turn_lost first g.D.Disk u v e page result

pub returns-clause-unread : goal.returns-clause-unread
returns-clause-unread g c = λ first u v e page result. turn_unread first g.D.Disk u v e page result

pub returns-clause-answered : goal.returns-clause-answered
returns-clause-answered g c = λ first u v x y. turn_ok first g.D.Disk u v x y

pub returns-clause-failed : goal.returns-clause-failed
returns-clause-failed g c = λ first u v e result told. turn_fails first g.D.Disk u v e result told

pub returns-clause-logged : goal.returns-clause-logged
returns-clause-logged g c = λ first u v w x r result page one. LogsARecord (r, c.a_record_behind_a_page.ensures.behind first r u v w x result page one)

pub returns-clause-grown : goal.returns-clause-grown
returns-clause-grown g c = λ first u v w x result. turn_grown first g.D.Disk u v w x result
