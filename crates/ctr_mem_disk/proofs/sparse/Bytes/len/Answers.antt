use Rattle.std.proofs.Common.{sym, ◌∙◌, ap, length}
use Rattle.ctr_mem_disk.specs.Blocks.{byte_in}
use Rattle.ctr_mem_disk.proofs.Places.{length-bytes_from}
use Rattle.ctr_mem_disk.proofs.sparse.Bytes.len.Goals as goal

pub returns-clause-value : goal.returns-clause-value
returns-clause-value c = sym (length-bytes_from (byte_in c.self.inside.blocks) 0 c.self.inside.len) ∙ ap length c.self.view_is
