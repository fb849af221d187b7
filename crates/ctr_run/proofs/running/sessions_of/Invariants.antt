use Rattle.std.proofs.Common.{◌≡◌, map, take}
use Rattle.ctr_types.specs.declared.statement.Line.{Line}
use Rattle.ctr_run.proofs.running.sessions_of.Given as goal

abbrev pub invariant-loop-line : goal.invariant-loop-line
invariant-loop-line l = l.sessions.items ≡ map (λ (x : Line). x.session) (take l.line-index l.fn.script.lines)
