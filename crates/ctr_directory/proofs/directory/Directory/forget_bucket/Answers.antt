use Rattle.std.proofs.Common.{sym, ◌∙◌}
use Rattle.std.proofs.lemmas.Bool.{false≢true}
use Rattle.std.proofs.lemmas.List.Elements.{All-set}
use Rattle.ctr_directory.specs.Chains.{IsRemembered}
use Rattle.ctr_directory.proofs.directory.Directory.forget_bucket.Goals as goal

pub returns : goal.returns
returns c = λ counted pages all.
    All-set (IsRemembered counted pages) c.args.self.now.buckets.items c.args.number c.forget.new.self (λ known. absurd (false≢true (sym c.forget.ensures.unknown ∙ known))) all
