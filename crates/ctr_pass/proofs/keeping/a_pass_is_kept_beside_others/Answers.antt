use Rattle.ctr_pass.proofs.Stayed.{kept_beside}
use Rattle.ctr_pass.proofs.keeping.a_pass_is_kept_beside_others.Goals as goal

pub returns : goal.returns
returns c = kept_beside c.a_position_stays.ensures.grown c.what_is_found_stays.ensures.grown_alone
