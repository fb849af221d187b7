use Rattle.ctr_run.proofs.running.run_on_threads.Given as goal

abbrev pub ghosts-run_opened_on_threads-B-Origin : goal.ghosts-run_opened_on_threads-B-Origin
ghosts-run_opened_on_threads-B-Origin g a = record { first = g.D.Disk.reads a.disk }

abbrev pub ghosts-run_opened_on_threads-B-Opening : goal.ghosts-run_opened_on_threads-B-Opening
ghosts-run_opened_on_threads-B-Opening g a = record {
  before = g.D.Disk.images a.disk;
  start = g.D.Disk.moment_of a.disk;
  faults = g.D.Disk.faults_of a.disk;
  lines = a.script.lines;
}
