use Rattle.std.proofs.Common.{◌∙◌, ap, List, ℕ, length}
use Rattle.ctr_disk.specs.Image.{section}
use Rattle.ctr_mem_disk.specs.Blocks.{byte_in}
use Rattle.ctr_mem_disk.proofs.Places.{read_of}
use Rattle.ctr_mem_disk.proofs.sparse.Bytes.read.Goals as goal

pub returns : goal.returns
returns c =
    let into = c.read_blocks.new.into in
    read_of (byte_in c.self.inside.blocks) c.self.inside.len c.args.at into c.self.invariant.1 c.read_blocks.ensures
    ∙ ap (λ (l : List ℕ). section c.args.at (length into) l) c.self.view_is ∙ ap (λ (n : ℕ). section c.args.at n c.args.self.now) c.read_blocks.auto.into
