use Rattle.ctr_kept.proofs.RecoveryTurns.{nobodys_turn}
use Rattle.ctr_kept.proofs.recovery.an_action_of_nobodys_is_kept.Goals as goal

pub returns : goal.returns
returns c = λ r now later low site w a keeps le shown owed bounds to away spares. nobodys_turn c.another_leaves_what_is_held.ensures r.lines r.moment r.base r.stuck r.size now site w keeps later low a le shown owed bounds to away spares
