use Rattle.std.proofs.Common.{refl}
use Rattle.ctr_record_laws.proofs.Still.{versions_same, link_same, unlink_same, format_same}
use Rattle.ctr_record_laws.proofs.loose.records_on_pages_leave_a_slot.Goals as goal

pub returns-clause-taken : goal.returns-clause-taken
returns-clause-taken c = λ area e at p taken used. record { used = used; same = refl }

pub returns-clause-format : goal.returns-clause-format
returns-clause-format c = λ counted tables area e at x p h bounds sound owed used. format_same area e at used counted tables x p h bounds sound owed

pub returns-clause-link : goal.returns-clause-link
returns-clause-link c = λ counted tables area e at x p f bucket few bounds sound owed used. link_same area e at used counted tables x p f bucket few bounds sound owed

pub returns-clause-unlink : goal.returns-clause-unlink
returns-clause-unlink c = λ tables area e at p f bucket owed off used. unlink_same area e at used tables p f bucket owed off

pub returns-clause-versions : goal.returns-clause-versions
returns-clause-versions c = λ area e at f p used. versions_same area e at used f p
