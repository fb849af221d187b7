use Rattle.std.proofs.Common.{◌≡◌, ◌<◌, false, length, slice_index_or, subst, sym, ◌∙◌, arith}
use Rattle.std.proofs.lemmas.Bool.{false≢true}
use Rattle.std.proofs.lemmas.List.{length-set, get_or_default}
use Rattle.std.proofs.lemmas.List.Elements.{AllWithin-more, AllWithin-more_set}
use Rattle.ctr_directory.specs.declared.remembered.Remembered.{Remembered}
use Rattle.ctr_directory.specs.Chains.{IsRemembered}
use Rattle.ctr_directory.proofs.Stepping.{rest_behind}
use Rattle.ctr_directory.proofs.directory.Directory.change_all.Goals as goal

pub loop-i-preserved : goal.loop-i-preserved
loop-i-preserved c =
    let xs = c.loop-i.self.buckets.items in
    let i = c.loop-i.i in
    let v = c.changed.new.self in
    let there : i < length xs = subst (λ n. i < n) (sym c.loop-i.invariant.0) c.loop-i-test.true in (
      length-set xs i v ∙ c.loop-i.invariant.0,
      λ a b changes all.
          let both = c.loop-i.invariant.1 a b changes all in
          let now = both.1 i c.index_mut.result.now (omega arith) c.loop-i-test.true in
          (AllWithin-more_set xs i v there (IsRemembered c.args.counted b) both.0 (c.changed.ensures a b changes (subst (λ (x : Remembered). IsRemembered c.args.counted a x) (sym c.index_mut.ensures.value) now)), rest_behind (IsRemembered c.args.counted a) xs i c.len-i-end.result v both.1),
    )

pub returns : goal.returns
returns c = λ a b changes all k d lt.
    let both = c.loop-i.invariant.1 a b changes all in
    both.0 k d (omega arith) (omega (arith, lt, c.loop-i.invariant.0, c.loop-i-test.false))

pub loop-i-preserved-then-not-index : goal.loop-i-preserved-then-not-index
loop-i-preserved-then-not-index c =
    let xs = c.loop-i.self.buckets.items in
    let i = c.loop-i.i in
    let found = c.index.result.now in
    let there : i < length xs = subst (λ n. i < n) (sym c.loop-i.invariant.0) c.loop-i-test.true in
    let unknown : (d : Remembered) → (slice_index_or xs i d).known ≡ false = λ d. subst (λ (x : Remembered). x.known ≡ false) (c.index.ensures ∙ get_or_default xs i found d there) c.if-not-index.true in (
      c.loop-i.invariant.0,
      λ a b changes all.
          let both = c.loop-i.invariant.1 a b changes all in
          (AllWithin-more (IsRemembered c.args.counted b) xs 0 i both.0 (λ d known. absurd (false≢true (sym (unknown d) ∙ known))), λ k d low high. both.1 k d (omega (arith, low)) high),
    )
