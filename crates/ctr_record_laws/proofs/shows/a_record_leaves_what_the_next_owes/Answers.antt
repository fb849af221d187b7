use Rattle.ctr_record_laws.proofs.Shown.{can_format, can_give_back, can_link, can_link_older, can_free, can_uncreate, can_undrop}
use Rattle.ctr_record_laws.proofs.shows.a_record_leaves_what_the_next_owes.Goals as goal

pub returns-clause-formatted : goal.returns-clause-formatted
returns-clause-formatted c = can_format

pub returns-clause-given_back : goal.returns-clause-given_back
returns-clause-given_back c = can_give_back

pub returns-clause-linked : goal.returns-clause-linked
returns-clause-linked c = can_link

pub returns-clause-older_linked : goal.returns-clause-older_linked
returns-clause-older_linked c = can_link_older

pub returns-clause-freed : goal.returns-clause-freed
returns-clause-freed c = can_free

pub returns-clause-uncreated : goal.returns-clause-uncreated
returns-clause-uncreated c = can_uncreate

pub returns-clause-undropped : goal.returns-clause-undropped
returns-clause-undropped c = can_undrop
