use Rattle.ctr_directory.proofs.directory.Directory.limit.Goals as goal

pub loop-preserved : goal.loop-preserved
loop-preserved c = λ counted pages all. c.forget_bucket.ensures counted pages (c.loop.invariant counted pages all)
