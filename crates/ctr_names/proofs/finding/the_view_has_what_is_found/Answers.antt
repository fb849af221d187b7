use Rattle.ctr_names.proofs.Search.{found_viewed, missed_viewed}
use Rattle.ctr_names.proofs.finding.the_view_has_what_is_found.Goals as goal

pub returns-clause-found : goal.returns-clause-found
returns-clause-found c = λ counted low tables area xids state look f sound bounds names looks found. found_viewed counted low tables area xids state look sound bounds names looks f found.0 found.1 found.2

pub returns-clause-none : goal.returns-clause-none
returns-clause-none c = λ counted low tables area xids state look sound bounds names looks none. missed_viewed counted low tables area xids state look sound bounds names looks none
