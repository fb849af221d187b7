use Rattle.std.proofs.Common.{length}
use Rattle.ctr_model.proofs.state.+commit_all.Given as goal

abbrev pub decreases-commit_all : goal.decreases-commit_all
decreases-commit_all l = length l.transactions.now
