use Rattle.std.proofs.Common.{refl}
use Rattle.ctr_run.proofs.running.run_on_threads.Goals as goal

pub run_opened_on_threads-requires-clause-named : goal.run_opened_on_threads-requires-clause-named
run_opened_on_threads-requires-clause-named g c κs within = record { image = refl; before = λ i is. is; start = refl; faults = refl; lines_are = refl }

pub run_opened_on_threads-requires-clause-before : goal.run_opened_on_threads-requires-clause-before
run_opened_on_threads-requires-clause-before g c κs within = λ i is. is
