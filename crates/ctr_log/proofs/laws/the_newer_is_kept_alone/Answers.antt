use Rattle.ctr_log.proofs.ForgetLaws.{forgets}
use Rattle.ctr_log.proofs.laws.the_newer_is_kept_alone.Goals as goal

pub returns : goal.returns
returns c = forgets
