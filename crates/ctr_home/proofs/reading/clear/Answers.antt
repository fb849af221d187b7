use Rattle.ctr_home.specs.Blocks.{zero_bytes}
use Rattle.ctr_home.proofs.reading.clear.Goals as goal

pub returns : goal.returns
unfolding zero_bytes
returns c = c.fill.ensures.after (λ y e. e)
