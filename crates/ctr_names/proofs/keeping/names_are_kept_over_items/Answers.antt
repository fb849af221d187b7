use Rattle.ctr_names.proofs.Holding.{holds_same, holds_more, holds_less, holds_fewer, holds_freed}
use Rattle.ctr_names.proofs.keeping.names_are_kept_over_items.Goals as goal

pub returns-clause-pages : goal.returns-clause-pages
returns-clause-pages c = λ items new title now sessions state holds. holds_same items title sessions state holds new now

pub returns-clause-more : goal.returns-clause-more
returns-clause-more c = λ items title now sessions state i x e holds. holds_more items title sessions state holds i x e now

pub returns-clause-less : goal.returns-clause-less
returns-clause-less c = λ items new title now sessions state s a holds. holds_less items title sessions state holds new now s a

pub returns-clause-undone : goal.returns-clause-undone
returns-clause-undone c = λ items new title now sessions state name z g holds. holds_fewer items title sessions state holds new now name z g

pub returns-clause-released : goal.returns-clause-released
returns-clause-released c = λ items new title now sessions state name holds. holds_freed items title sessions state holds new now name
