use Rattle.std.proofs.Common.{◌≡◌, vec_len}
use Rattle.ctr_pool.proofs.memory.Memory.new.Given as goal

abbrev pub invariant-loop : goal.invariant-loop
invariant-loop l = vec_len l.sheets ≡ l.counter
