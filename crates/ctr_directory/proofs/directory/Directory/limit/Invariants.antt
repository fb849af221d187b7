use Rattle.std.proofs.Common.{ℕ, List}
use Rattle.ctr_directory.specs.Exact.{IsExact}
use Rattle.ctr_directory.proofs.directory.Directory.limit.Given as goal

abbrev pub invariant-loop : goal.invariant-loop
invariant-loop l = (counted : ℕ) (pages : ℕ → List ℕ) → IsExact counted pages l.fn.self → IsExact counted pages l.self
