use Rattle.ctr_directory.proofs.Buckets.{knows_full}
use Rattle.ctr_directory.proofs.remembered.Remembered.is_full.Goals as goal

pub returns : goal.returns
returns c = λ counted pages kept yes.
    knows_full counted pages c.args.self.now (kept c.if-not-self.false) c.if-self.false c.if-self-ne0.false (c.is_empty.ensures.0 yes)
