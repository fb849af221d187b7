use Rattle.std.proofs.Common.{false}
use Rattle.ctr_alloc.proofs.BitLaws.{bit_over}
use Rattle.ctr_alloc.proofs.bits.with_free.Goals as goal

pub returns-clause-area : goal.returns-clause-area
returns-clause-area c = λ pages is. bit_over pages c.args.page.now c.args.p c.clear_bit.result false is c.requires c.clear_bit.ensures
