use Rattle.ctr_kept.proofs.RecoveryTurns.{orphan_turn}
use Rattle.ctr_kept.proofs.recovery.an_orphan_is_ended.Goals as goal

pub returns : goal.returns
returns c = λ r now later x site w front back keeps le none is bounds. orphan_turn c.another_leaves_what_is_held.ensures r.lines r.moment r.base r.stuck r.size now site w keeps later x front back le none is bounds
