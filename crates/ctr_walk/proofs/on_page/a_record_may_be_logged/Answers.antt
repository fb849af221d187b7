use Rattle.ctr_walk.proofs.Records.{one_may}
use Rattle.ctr_walk.proofs.on_page.a_record_may_be_logged.Goals as goal

pub returns : goal.returns
returns g c = λ r opens items v. one_may r opens items v
