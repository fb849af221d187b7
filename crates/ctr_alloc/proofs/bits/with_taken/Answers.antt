use Rattle.std.proofs.Common.{true}
use Rattle.ctr_alloc.proofs.BitLaws.{bit_over}
use Rattle.ctr_alloc.proofs.bits.with_taken.Goals as goal

pub returns-clause-area : goal.returns-clause-area
returns-clause-area c = λ pages is. bit_over pages c.args.page.now c.args.p c.set_bit.result true is c.requires c.set_bit.ensures
