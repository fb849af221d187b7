use Rattle.ctr_run.specs.Lines.{RanOrStopped}
use Rattle.ctr_run.proofs.lines.run_lines.Given as goal

abbrev pub invariant-loop-session : goal.invariant-loop-session
invariant-loop-session g l = RanOrStopped g.B.Opening.start g.B.Opening.lines 0 l.initial.world → RanOrStopped g.B.Opening.start g.B.Opening.lines l.session-index l.world
