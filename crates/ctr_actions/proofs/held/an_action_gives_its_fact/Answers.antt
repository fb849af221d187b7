use Rattle.ctr_actions.proofs.Gains.{begun_open, blank_made, more_pages, page_gone}
use Rattle.ctr_actions.proofs.held.an_action_gives_its_fact.Goals as goal

pub returns-clause-begun : goal.returns-clause-begun
returns-clause-begun c = begun_open

pub returns-clause-allocated : goal.returns-clause-allocated
returns-clause-allocated c = λ x p s. c.a_record_leaves_what_the_next_owes.ensures.formatted s.tables x p

pub returns-clause-formatted : goal.returns-clause-formatted
returns-clause-formatted c = blank_made

pub returns-clause-kept : goal.returns-clause-kept
returns-clause-kept c = λ x s e at q version sound used owed.
    (used, c.a_kept_version_is_spare.ensures s.counted s.tables s.area e q (s.area.slot at) version sound owed.1)

pub returns-clause-more : goal.returns-clause-more
returns-clause-more c = more_pages

pub returns-clause-gone : goal.returns-clause-gone
returns-clause-gone c = λ x a p ps s bounds sound owed gone only. page_gone x p ps s bounds sound only a owed gone
