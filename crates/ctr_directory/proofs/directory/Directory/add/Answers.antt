use Rattle.ctr_directory.proofs.directory.Directory.add.Goals as goal

pub returns : goal.returns
returns c = λ pages is all. c.limit.ensures c.args.counted pages (c.put.ensures pages is all)
