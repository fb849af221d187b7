use Rattle.ctr_exec.specs.Runners.{all_left}
use Rattle.ctr_exec.proofs.sessions.Sessions.+answer.Given as goal

abbrev pub decreases-answer : goal.decreases-answer
decreases-answer g l = all_left l.self.now.runners.items
