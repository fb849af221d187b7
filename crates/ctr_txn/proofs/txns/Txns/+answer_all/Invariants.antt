use Rattle.std.proofs.Common.{length, ◌-◌}
use Rattle.ctr_txn.proofs.txns.Txns.+answer_all.Given as goal

abbrev pub decreases-answer_all : goal.decreases-answer_all
decreases-answer_all g l = length l.self.now.numbers.commits - l.self.now.answered
