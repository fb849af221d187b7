use Rattle.std.proofs.Common.{subst}
use Rattle.ctr_store.specs.Numbers.{NumbersAt}
use Rattle.ctr_store.specs.Store.{View}
use Rattle.ctr_store.proofs.store.Store.bounds_numbers.Goals as goal

pub returns : goal.returns
returns g c = subst (λ (v : View g.row.D.Denot). NumbersAt v.next v.meta.tables) c.self.view_is c.self.invariant.numbers.0
