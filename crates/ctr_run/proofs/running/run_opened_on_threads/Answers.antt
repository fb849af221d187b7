use Rattle.std.proofs.Common.{subst}
use Rattle.std.proofs.Math.Logic.{∥∥₁_map}
use Rattle.ctr_workers.specs.Leads.{LeadsByTurns}
use Rattle.ctr_workers.specs.Workers.{IsActor}
use Rattle.ctr_run.specs.Beside.{StepsTo}
use Rattle.ctr_run.proofs.running.run_opened_on_threads.Goals as goal

pub returns-in-Err-clause-runs : goal.returns-in-Err-clause-runs
returns-in-Err-clause-runs g c = c.in-Err.ensures.refused c.args.totals

pub returns-in-Err-clause-turns : goal.returns-in-Err-clause-turns
returns-in-Err-clause-turns g c = λ first ran. absurd (ran c.in-Err.ensures.none.error c.in-Err.ensures.none.end)

pub returns-clause-runs : goal.returns-clause-runs
returns-clause-runs g c = c.finished.ensures.runs c.args.disk c.args.script.lines c.requires.named c.requires.before c.in-Ok.ensures.passes

pub returns-clause-turns : goal.returns-clause-turns
returns-clause-turns g c = λ first ran. ∥∥₁_map c.run_workers-world.ensures (λ turns. record {
  begun = c.in-Ok.world;
  last = c.run_workers-world.result;
  unbegun = c.in-Ok.ensures.begins;
  turns = subst (λ w. LeadsByTurns IsActor (StepsTo g.D.Disk) w c.run_workers-world.result) (c.run_first.ensures first) turns;
  finishes = c.finished.ensures.turns;
})
