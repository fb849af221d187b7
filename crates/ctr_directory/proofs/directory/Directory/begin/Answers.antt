use Rattle.std.proofs.lemmas.List.Elements.{All-set}
use Rattle.ctr_directory.specs.Chains.{IsRemembered}
use Rattle.ctr_directory.proofs.directory.Directory.begin.Goals as goal

pub returns : goal.returns
returns c = λ pages is all.
    All-set (IsRemembered c.args.counted pages) c.reach.new.self.buckets.items c.number_of-number.result c.begin.new.self (c.begin.ensures pages is) (c.reach.ensures.kept c.args.counted pages all)

pub returns-then-not-reach : goal.returns-then-not-reach
returns-then-not-reach c = λ pages is all. c.reach.ensures.kept c.args.counted pages all
