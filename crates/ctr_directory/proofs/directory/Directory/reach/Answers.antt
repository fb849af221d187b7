use Rattle.std.proofs.Common.{List, sym, ◌∙◌, subst}
use Rattle.std.specs.List.{All}
use Rattle.std.proofs.lemmas.Bool.{false≢true}
use Rattle.std.proofs.lemmas.List.Elements.{All-push}
use Rattle.ctr_directory.specs.declared.remembered.Remembered.{Remembered}
use Rattle.ctr_directory.specs.Chains.{IsRemembered}
use Rattle.ctr_directory.proofs.directory.Directory.reach.Goals as goal

pub loop-preserved : goal.loop-preserved
loop-preserved c = λ counted pages all.
    let P = IsRemembered counted pages in
    subst (λ (xs : List Remembered). All P xs) (sym c.in-Ok.ensures.items) (All-push P c.loop.self.buckets.items c.new.result (c.loop.invariant counted pages all) (λ known. absurd (false≢true (sym c.new.ensures ∙ known))))

pub returns-in-Err-clause-kept : goal.returns-in-Err-clause-kept
returns-in-Err-clause-kept c = λ counted pages all.
    subst (λ (xs : List Remembered). All (IsRemembered counted pages) xs) (sym c.in-Err.ensures.items) (c.loop.invariant counted pages all)
