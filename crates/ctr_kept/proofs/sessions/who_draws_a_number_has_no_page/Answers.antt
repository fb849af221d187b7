use Rattle.ctr_kept.proofs.Beginning.{no_page_yet}
use Rattle.ctr_kept.proofs.sessions.who_draws_a_number_has_no_page.Goals as goal

pub returns : goal.returns
returns c = no_page_yet
