use Rattle.ctr_workers.specs.Workers.{IsAskedFor}
use Rattle.ctr_workers.proofs.Leading.{leads_from_one}
use Rattle.ctr_workers.proofs.named.run_turns.Goals as goal

pub returns : goal.returns
returns g c = leads_from_one (IsAskedFor c.args.sessions) g.T.Turns.took c.args.turns c.run_named.result c.run_named.ensures
