use Rattle.std.proofs.Common.{ℕ, subst, rules}
use Rattle.ctr_directory.specs.Chains.{IsRemembered, KnowsFull}
use Rattle.ctr_directory.proofs.directory.Directory.is_full.Goals as goal

pub returns : goal.returns
returns c = λ counted pages exact yes.
    let b = c.index-found.result.now in
    let kept : IsRemembered counted pages b = search rules in
    subst (λ (e : ℕ). KnowsFull counted pages e c.args.bucket) c.if-found-entry.false (subst (λ (k : ℕ). KnowsFull counted pages b.entry k) c.if-found-bucket.false (c.is_full.ensures counted pages kept yes))
