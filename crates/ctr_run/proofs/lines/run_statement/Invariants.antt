use Rattle.std.proofs.Common.{◌≡◌, ℕ, Some}
use Rattle.std.specs.Prelude.{slice_get}
use Rattle.std.specs.List.{AllByRecursion}
use Rattle.ctr_types.specs.declared.statement.Line.{Line}
use Rattle.ctr_world.specs.exec_Sessions.{turns_left}
use Rattle.ctr_world.specs.Opened.{IsRunLine}
use Rattle.ctr_run.specs.Lines.{RanOrStopped}
use Rattle.ctr_run.proofs.Between.{Goes}
use Rattle.ctr_run.proofs.lines.run_statement.Given as goal

abbrev pub invariant-loop-alloc : goal.invariant-loop-alloc
invariant-loop-alloc g l = (k : ℕ) (x : Line) (there : slice_get g.B.Opening.lines k ≡ Some x) → x.session ≡ l.session → (runs : AllByRecursion IsRunLine g.B.Opening.lines)
    → RanOrStopped g.B.Opening.start g.B.Opening.lines k l.initial.world → Goes g.D.Disk g.B.Opening.start g.B.Opening.lines runs k x there l.count l.world

abbrev pub decreases-loop-alloc : goal.decreases-loop-alloc
decreases-loop-alloc g l = turns_left l.world.running.sessions l.world.running.store
