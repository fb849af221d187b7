use Rattle.std.proofs.Common.{◌+◌}
use Rattle.ctr_run.proofs.lines.run_line.Goals as goal

pub returns : goal.returns
returns g c = λ k x there named runs ran.
    c.step_between-3.ensures (k + 1) runs (c.step_between-2.ensures (k + 1) runs (c.step_between.ensures (k + 1) runs (c.run_statement.ensures k x there named runs ran)))
