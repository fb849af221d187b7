use Rattle.ctr_passed.proofs.Placed.{slot_laid_passes}
use Rattle.ctr_passed.proofs.checks.slots_pass_their_checks.Goals as goal

pub returns-clause-writes : goal.returns-clause-writes
returns-clause-writes c = λ s r m slot. slot_laid_passes s r m.entry m.at slot

pub returns-clause-reverts : goal.returns-clause-reverts
returns-clause-reverts c = λ s r e at way slot. slot_laid_passes s r e at slot

pub returns-clause-trims : goal.returns-clause-trims
returns-clause-trims c = λ s r passes e at way slot. slot_laid_passes s r e at slot
