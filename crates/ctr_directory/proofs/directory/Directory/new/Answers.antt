use Rattle.std.proofs.Common.{List, arith, sym, subst}
use Rattle.std.specs.List.{All}
use Rattle.ctr_directory.specs.declared.remembered.Remembered.{Remembered}
use Rattle.ctr_directory.specs.Chains.{IsRemembered}
use Rattle.ctr_directory.proofs.directory.Directory.new.Goals as goal

pub returns : goal.returns
returns c = λ counted pages. subst (λ (xs : List Remembered). All (IsRemembered counted pages) xs) (sym c.new.ensures.items) (λ k d lt. absurd (omega (arith, lt)))
