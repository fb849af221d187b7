use Rattle.std.proofs.Common.{◌++◌, drop, replicate, ◌∙◌}
use Rattle.std.proofs.lemmas.List.{append-nil}
use Rattle.ctr_page.specs.Making.{header_bytes}
use Rattle.ctr_heap.proofs.writing.header_made.Goals as goal

pub returns : goal.returns
returns c = c.make_header.ensures.bytes ∙ (λ i. header_bytes c.args.header.now ++ drop (c.make_header.ensures.number i) (replicate 16 0)) ∙ append-nil (header_bytes c.args.header.now)
