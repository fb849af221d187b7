use Rattle.std.proofs.Common.{◌∙◌, ◌+◌, drop, get_or, sym}
use Rattle.ctr_home.specs.declared.checks.Check.{Check}
use Rattle.ctr_home.proofs.CheckLemmas.{judged_fails, judged_at}
use Rattle.ctr_home.proofs.checks.judge.Goals as goal

pub returns-then-check-clause-row : goal.returns-then-check-clause-row
returns-then-check-clause-row c =
    let none : Check = record { at = 0; want = 0; got = 0 } in
    let k = c.loop-check.check-index in
    let there = judged_at c.args.file c.args.checks.now k none c.loop-check-test.true in
    sym (c.loop-check.invariant ∙ there ∙ judged_fails c.args.file (get_or c.args.checks.now k none) (drop (k + 1) c.args.checks.now) c.if-check.true)
