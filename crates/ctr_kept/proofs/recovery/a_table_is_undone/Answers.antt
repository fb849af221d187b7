use Rattle.ctr_kept.proofs.RecoveryTurns.{uncreated_turn, last_created_turn, undropped_turn, last_dropped_turn}
use Rattle.ctr_kept.proofs.recovery.a_table_is_undone.Goals as goal

pub returns-clause-created : goal.returns-clause-created
returns-clause-created c = λ r now later x e site w front keeps le is bounds z g other nobodys. uncreated_turn c.another_leaves_what_is_held.ensures r.lines r.moment r.base r.stuck r.size now site w keeps later x e front le is bounds z g other nobodys

pub returns-clause-last_created : goal.returns-clause-last_created
returns-clause-last_created c = λ r now later x e site w front keeps le is bounds nobody last. last_created_turn c.another_leaves_what_is_held.ensures r.lines r.moment r.base r.stuck r.size now site w keeps later x e front le is bounds nobody last

pub returns-clause-dropped : goal.returns-clause-dropped
returns-clause-dropped c = λ r now later x e site w front keeps le is bounds z g other nobodys. undropped_turn c.another_leaves_what_is_held.ensures r.lines r.moment r.base r.stuck r.size now site w keeps later x e front le is bounds z g other nobodys

pub returns-clause-last_dropped : goal.returns-clause-last_dropped
returns-clause-last_dropped c = λ r now later x e site w front keeps le is bounds nobody last. last_dropped_turn c.another_leaves_what_is_held.ensures r.lines r.moment r.base r.stuck r.size now site w keeps later x e front le is bounds nobody last
