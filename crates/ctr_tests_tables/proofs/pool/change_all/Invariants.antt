use Rattle.std.proofs.Common.{◌≡◌, ◌≤◌, vec_len}
use Rattle.ctr_pool.specs.Over.{IsOver}
use Rattle.ctr_pool.specs.contracts.memory.MemoryBacking.TheImpl.{ghosts}
use Rattle.ctr_tests_tables.proofs.pool.change_all.Given as goal

abbrev pub invariant-loop-step : goal.invariant-loop-step
invariant-loop-step l = record {
  over : IsOver ghosts l.pool.frames l.memory;
  held : vec_len l.memory.sheets ≡ 12;
  steps : l.run.steps ≤ l.step;
  wrong : l.run.wrong ≤ l.step;
}
