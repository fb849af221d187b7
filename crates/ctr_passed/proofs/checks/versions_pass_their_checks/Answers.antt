use Rattle.ctr_passed.proofs.Placed.{older_laid_passes}
use Rattle.ctr_passed.proofs.checks.versions_pass_their_checks.Goals as goal

pub returns-clause-keeps : goal.returns-clause-keeps
returns-clause-keeps c = λ s r e at older entry. older_laid_passes s r e at entry

pub returns-clause-cuts : goal.returns-clause-cuts
returns-clause-cuts c = λ s r passes e at q entry. older_laid_passes s r e q entry

pub returns-clause-frees : goal.returns-clause-frees
returns-clause-frees c = λ s r e q entry. older_laid_passes s r e q entry
