use Rattle.std.proofs.Common.{◌≡◌, false}
use Rattle.ctr_suite_pages.proofs.play.play_lines.Given as goal

abbrev pub invariant-loop-line : goal.invariant-loop-line
invariant-loop-line l = l.store.stopped ≡ false
