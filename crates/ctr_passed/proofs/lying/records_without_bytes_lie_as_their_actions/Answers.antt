use Rattle.std.proofs.Common.{refl}
use Rattle.ctr_actions.specs.rec_Record.TheVariants.{Begin, Commit, Abort, Forget, Checkpoint}
use Rattle.ctr_passed.proofs.Apart.{page_apart}
use Rattle.ctr_passed.proofs.lying.records_without_bytes_lie_as_their_actions.Goals as goal

pub returns-clause-begins : goal.returns-clause-begins
returns-clause-begins c = λ s x q some. page_apart s (Begin x) q refl

pub returns-clause-commits : goal.returns-clause-commits
returns-clause-commits c = λ s x q some. page_apart s (Commit x) q refl

pub returns-clause-aborts : goal.returns-clause-aborts
returns-clause-aborts c = λ s x q some. page_apart s (Abort x) q refl

pub returns-clause-forgets : goal.returns-clause-forgets
returns-clause-forgets c = λ s x q some. page_apart s (Forget x) q refl

pub returns-clause-checkpoints : goal.returns-clause-checkpoints
returns-clause-checkpoints c = λ s next lists q some. page_apart s (Checkpoint next lists) q refl
