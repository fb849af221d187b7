use Rattle.std.proofs.Common.{◌≡◌, ◌<◌, false, length, subst, sym, ◌∙◌, arith}
use Rattle.std.proofs.lemmas.Bool.{false≢true}
use Rattle.std.proofs.lemmas.List.{length-set}
use Rattle.std.proofs.lemmas.List.Elements.{AllWithin-more_set}
use Rattle.ctr_directory.specs.declared.remembered.Remembered.{Remembered}
use Rattle.ctr_directory.proofs.directory.Directory.forget.Goals as goal

pub loop-i-preserved : goal.loop-i-preserved
loop-i-preserved c =
    let xs = c.loop-i.self.buckets.items in
    let there : c.loop-i.i < length xs = subst (λ n. c.loop-i.i < n) (sym c.loop-i.invariant.0) c.loop-i-test.true in
    (length-set xs c.loop-i.i c.forget.new.self ∙ c.loop-i.invariant.0, AllWithin-more_set xs c.loop-i.i c.forget.new.self there (λ (b : Remembered). b.known ≡ false) c.loop-i.invariant.1 c.forget.ensures.unknown)

pub returns : goal.returns
returns c = λ counted pages k d lt known. absurd (false≢true (sym (c.loop-i.invariant.1 k d (omega arith) (omega (arith, lt, c.loop-i.invariant.0, c.loop-i-test.false))) ∙ known))
