use Rattle.std.proofs.Common.{◌≡◌, drop}
use Rattle.ctr_home.specs.Checks.{judged}
use Rattle.ctr_home.proofs.checks.judge.Given as goal

-- what is left to check says the answer
abbrev pub invariant-loop-check : goal.invariant-loop-check
invariant-loop-check l = judged l.file l.checks ≡ judged l.file (drop l.check-index l.checks)
