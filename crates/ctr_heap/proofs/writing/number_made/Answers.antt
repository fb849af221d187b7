use Rattle.std.proofs.Common.{◌∙◌}
use Rattle.std.proofs.lemmas.List.{append-nil}
use Rattle.ctr_bytes.specs.Fields.{spelled}
use Rattle.ctr_heap.proofs.writing.number_made.Goals as goal

pub returns : goal.returns
returns c = c.put_u32.ensures.put ∙ append-nil (spelled 4 c.args.p)
