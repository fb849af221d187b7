use Rattle.ctr_names.proofs.Holding.{holds_granted, holds_begun, holds_drawn, holds_undoing, holds_ended}
use Rattle.ctr_names.proofs.keeping.names_are_kept_over_sessions.Goals as goal

pub returns-clause-granted : goal.returns-clause-granted
returns-clause-granted c = λ items title sessions state s t u holds. holds_granted items title sessions state holds s t u

pub returns-clause-begun : goal.returns-clause-begun
returns-clause-begun c = λ items title sessions state s b u holds. holds_begun items title sessions state holds s b u

pub returns-clause-drawn : goal.returns-clause-drawn
returns-clause-drawn c = λ items title sessions state s a b u holds. holds_drawn items title sessions state holds s a b u

pub returns-clause-undoing : goal.returns-clause-undoing
returns-clause-undoing c = λ items title sessions state s a b holds. holds_undoing items title sessions state holds s a b

pub returns-clause-ended : goal.returns-clause-ended
returns-clause-ended c = λ items title sessions state after s holds. holds_ended items title sessions state holds s after
