use Rattle.ctr_pass.proofs.Turned.{kept_by_turn}
use Rattle.ctr_pass.proofs.keeping.a_pass_is_kept_by_its_turn.Goals as goal

pub returns : goal.returns
returns c = λ p h w v u keeps database busy turns.
    kept_by_turn c.a_pass_goes_on.ensures.further c.a_pass_goes_from_position_to_position.ensures.leads c.a_position_stays.ensures.done c.what_is_found_stays.ensures.alone p h w v u keeps database busy turns
