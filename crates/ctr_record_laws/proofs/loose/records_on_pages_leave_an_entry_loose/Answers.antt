use Rattle.ctr_record_laws.proofs.Chained.{link_loose, older_link_loose, unlink_loose, older_unlink_loose}
use Rattle.ctr_record_laws.proofs.Elsewhere.{format_loose}
use Rattle.ctr_record_laws.proofs.Steady.{taken_loose}
use Rattle.ctr_record_laws.proofs.loose.records_on_pages_leave_an_entry_loose.Goals as goal

pub returns-clause-taken : goal.returns-clause-taken
returns-clause-taken c = λ area e q it p taken loose. taken_loose area e q it loose p taken

pub returns-clause-format : goal.returns-clause-format
returns-clause-format c = λ counted tables area e q it x p h bounds sound owed loose. format_loose counted tables area x p h bounds sound owed e q it loose

pub returns-clause-link : goal.returns-clause-link
returns-clause-link c = λ tables area e q it x p f bucket owed loose. link_loose area e q it loose tables x p f bucket owed

pub returns-clause-older_link : goal.returns-clause-older_link
returns-clause-older_link c = λ counted tables area e q it x p f few bounds sound owed loose. older_link_loose area e q it loose counted tables x p f few bounds sound owed

pub returns-clause-unlink : goal.returns-clause-unlink
returns-clause-unlink c = λ counted tables area e q it p f bucket sound owed loose. unlink_loose area e q it loose counted tables p f bucket sound owed

pub returns-clause-older_unlink : goal.returns-clause-older_unlink
returns-clause-older_unlink c = λ area e q it p f apart loose. older_unlink_loose area e q it loose p f apart
