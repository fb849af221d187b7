use Rattle.std.proofs.Math.Logic.{∥∥₁_map}
use Rattle.ctr_workers.specs.Workers.{IsActor, IsAskedFor}
use Rattle.ctr_run.specs.Beside.{StepsTo}
use Rattle.ctr_run.proofs.Stepping.{asked_are_actors, leads_in_part}
use Rattle.ctr_run.proofs.beside.run_workers.Goals as goal

pub returns : goal.returns
returns g c = ∥∥₁_map c.run_turns-locked.ensures (λ leads. leads_in_part (λ l. l.world) (IsAskedFor c.args.sessions) IsActor _ (StepsTo g.D.Disk) (asked_are_actors c.args.sessions) (λ a t x y took. took) _ _ leads)
