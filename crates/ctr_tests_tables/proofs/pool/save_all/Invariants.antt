use Rattle.ctr_pool.specs.Over.{IsOver}
use Rattle.ctr_pool.specs.contracts.memory.MemoryBacking.TheImpl.{ghosts}
use Rattle.ctr_tests_tables.proofs.pool.save_all.Given as goal

abbrev pub invariant-loop : goal.invariant-loop
invariant-loop l = IsOver ghosts l.pool.frames l.memory
