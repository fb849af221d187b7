use Rattle.ctr_actions.specs.ctr_record_effects.States.{area_in}
use Rattle.ctr_passed.specs.Laid.{older_size_in}
use Rattle.ctr_passed.proofs.Apart.{place_lies}
use Rattle.ctr_passed.proofs.lying.versions_lie_as_their_actions.Goals as goal

pub returns-clause-keeps : goal.returns-clause-keeps
returns-clause-keeps c = λ s r e at older bytes. place_lies s r at (older_size_in (area_in s) e) bytes

pub returns-clause-cuts : goal.returns-clause-cuts
returns-clause-cuts c = λ s r passes e at q bytes. place_lies s r q (older_size_in (area_in s) e) bytes

pub returns-clause-frees : goal.returns-clause-frees
returns-clause-frees c = λ s r e q bytes. place_lies s r q (older_size_in (area_in s) e) bytes
