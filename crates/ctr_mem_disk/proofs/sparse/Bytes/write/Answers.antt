use Rattle.std.proofs.Common.{◌∙◌, ap, List, ℕ}
use Rattle.ctr_disk.specs.Image.{written}
use Rattle.ctr_mem_disk.specs.Blocks.{byte_in, bytes_from}
use Rattle.ctr_mem_disk.proofs.Places.{written_of}
use Rattle.ctr_mem_disk.proofs.sparse.Bytes.write.Goals as goal

pub returns-clause-ok : goal.returns-clause-ok
returns-clause-ok c =
    let w = c.args.with.now in
    ap (λ (n : ℕ). bytes_from (byte_in c.write_blocks.new.blocks) 0 n) c.max-self-inside.ensures
    ∙ written_of (byte_in c.self.inside.blocks) (byte_in c.write_blocks.new.blocks) c.self.inside.len c.args.at w c.self.invariant.1 c.in_ok-write_blocks.ensures.ok
    ∙ ap (λ (l : List ℕ). written c.args.at w l) c.self.view_is
