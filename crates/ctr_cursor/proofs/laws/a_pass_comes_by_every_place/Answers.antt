use Rattle.std.specs.Prelude.{◌≡◌, true}
use Rattle.ctr_cursor.proofs.Passing.{whole, passes_all, holds_all}
use Rattle.ctr_cursor.proofs.laws.a_pass_comes_by_every_place.Goals as goal

pub returns-clause-ends : goal.returns-clause-ends
returns-clause-ends c = λ s sound. let all = whole s sound.readable in (all.0, all.1)

pub returns-clause-everywhere : goal.returns-clause-everywhere
returns-clause-everywhere c = λ s positions sound goes. passes_all s sound.readable positions goes

pub returns-clause-handed : goal.returns-clause-handed
returns-clause-handed c = λ s holds sound here hands. holds_all s (λ x. holds x ≡ true) sound.readable here hands
