use Rattle.std.proofs.Common.{◌∙◌, ℕ, replicate, ap}
use Rattle.ctr_pool.proofs.body.Body.clear.Goals as goal

pub returns : goal.returns
returns c = c.clear_all.ensures.zeros ∙ ap (λ (n : ℕ). replicate n 0) c.self.invariant
