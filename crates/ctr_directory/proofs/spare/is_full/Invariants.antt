use Rattle.std.proofs.Common.{◌≡◌, ◌<◌, ℕ, true, is_some}
use Rattle.ctr_directory.specs.Keys.{key_on}
use Rattle.ctr_directory.proofs.spare.is_full.Given as goal

abbrev pub invariant-loop-slot : goal.invariant-loop-slot
invariant-loop-slot l = (n : ℕ) → n < l.slot → is_some (key_on l.kinds n l.page) ≡ true
