use Rattle.ctr_directory.proofs.directory.Directory.changed.Goals as goal

pub returns : goal.returns
returns c = λ a b changes all. c.limit.ensures c.args.counted b (c.change_all.ensures a b changes all)
