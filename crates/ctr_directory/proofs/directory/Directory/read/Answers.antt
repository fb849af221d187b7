use Rattle.std.proofs.Common.{◌≡◌, ℕ, subst}
use Rattle.ctr_directory.proofs.directory.Directory.read.Goals as goal

pub returns-then-knows : goal.returns-then-knows
returns-then-knows c = λ pages is all. c.add.ensures pages (is c.if-number-counted.false) (c.used.ensures c.args.counted pages all)

pub returns-then-number-entry : goal.returns-then-number-entry
returns-then-number-entry c = λ pages is all. c.begin.ensures pages (subst (λ (n : ℕ). pages n ≡ c.args.page.now) c.if-number-entry.true (is c.if-number-counted.false)) (c.used.ensures c.args.counted pages all)

pub returns-else-number-entry : goal.returns-else-number-entry
returns-else-number-entry c = λ pages is all. c.used.ensures c.args.counted pages all
