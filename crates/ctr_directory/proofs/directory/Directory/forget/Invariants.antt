use Rattle.std.proofs.Common.{◌≡◌, false, length}
use Rattle.std.specs.List.{AllWithin}
use Rattle.ctr_directory.specs.declared.remembered.Remembered.{Remembered}
use Rattle.ctr_directory.proofs.directory.Directory.forget.Given as goal

abbrev pub invariant-loop-i : goal.invariant-loop-i
invariant-loop-i l = (length l.self.buckets.items ≡ l.i-end) × AllWithin (λ (b : Remembered). b.known ≡ false) l.self.buckets.items 0 l.i
