use Rattle.std.proofs.Common.{◌∙◌, ap}
use Rattle.ctr_redo.specs.Overlaid.{overlaid}
use Rattle.ctr_redo.proofs.PageLaws.{durable_alone, again}
use Rattle.ctr_redo.proofs.StateLaws.{state_swapped}
use Rattle.ctr_redo.proofs.laws.a_page_can_go_home.Goals as goal

pub returns-clause-same : goal.returns-clause-same
returns-clause-same c p v more i same = state_swapped p v more i same

pub returns-clause-durable : goal.returns-clause-durable
returns-clause-durable c p first log waiting home low = ap (overlaid p first log) (durable_alone p first log waiting home low) ∙ again p first log home
