use Rattle.ctr_names.proofs.Fates.{found_same}
use Rattle.ctr_names.proofs.Search.{sought_shows, sought_none}
use Rattle.ctr_names.proofs.finding.what_a_session_finds_is_shown.Goals as goal

pub returns-clause-test : goal.returns-clause-test
returns-clause-test c = λ counted tables area xids session me x sound are is. found_same counted tables area sound xids are session me is x

pub returns-clause-found : goal.returns-clause-found
returns-clause-found c = λ counted low tables area xids state look f sound bounds names looks found. sought_shows counted low tables area xids state look sound bounds names looks f found.0 found.1 found.2

pub returns-clause-none : goal.returns-clause-none
returns-clause-none c = λ counted low tables area xids state look sound bounds names looks none. sought_none counted low tables area xids state look sound bounds names looks none
