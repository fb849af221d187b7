use Rattle.std.proofs.Common.{refl}
use Rattle.ctr_run.proofs.running.run.Goals as goal

pub run_opened-requires-clause-named : goal.run_opened-requires-clause-named
run_opened-requires-clause-named g c = record { image = refl; before = λ i is. is; start = refl; faults = refl; lines_are = refl }

pub run_opened-requires-clause-before : goal.run_opened-requires-clause-before
run_opened-requires-clause-before g c = λ i is. is

pub returns-clause-ran : goal.returns-clause-ran
returns-clause-ran g c = c.run_opened.ensures.runs.ran

pub returns-clause-order : goal.returns-clause-order
returns-clause-order g c = c.run_opened.ensures.runs.order

pub returns-clause-none : goal.returns-clause-none
returns-clause-none g c = c.run_opened.ensures.runs.none

pub returns-clause-ends : goal.returns-clause-ends
returns-clause-ends g c = c.run_opened.ensures.runs.ends

pub returns-clause-counts : goal.returns-clause-counts
returns-clause-counts g c = c.run_opened.ensures.runs.counts

pub returns-clause-complete : goal.returns-clause-complete
returns-clause-complete g c = c.run_opened.ensures.runs.complete
