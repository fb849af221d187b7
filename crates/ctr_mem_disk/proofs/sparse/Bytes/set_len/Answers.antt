use Rattle.std.proofs.Common.{◌≡◌, ◌<◌, ◌∙◌, ap, List, ℕ}
use Rattle.ctr_disk.specs.Image.{section}
use Rattle.ctr_mem_disk.specs.Blocks.{byte_in}
use Rattle.ctr_mem_disk.specs.declared.sparse.Bytes.TheInside.{Inside}
use Rattle.ctr_mem_disk.proofs.Places.{cut_of}
use Rattle.ctr_mem_disk.proofs.sparse.Bytes.set_len.Goals as goal
use Rattle.ctr_mem_disk.proofs.sparse.Bytes.set_len.Goals.{then-len-self+in_ok-cut_blocks, else-len-self}

pub returns-clause-ok : goal.returns-clause-ok
returns-clause-ok c =
    let same : (i : ℕ) → i < c.args.len → byte_in c.if-len-self.self-inside.blocks i ≡ byte_in c.self.inside.blocks i =
    elim c.if-len-self.branch [
      | then-len-self+in_ok-cut_blocks w ↦ λ i low. ap (λ (a : Inside). byte_in a.blocks i) w.self-inside-is ∙ w.in_ok-cut_blocks.ensures.below i low
      | else-len-self w ↦ λ i low. ap (λ (a : Inside). byte_in a.blocks i) w.self-inside-is
    ] in
    cut_of (byte_in c.self.inside.blocks) (byte_in c.if-len-self.self-inside.blocks) c.self.inside.len c.args.len c.self.invariant.1 same
    ∙ ap (λ (l : List ℕ). section 0 c.args.len l) c.self.view_is
