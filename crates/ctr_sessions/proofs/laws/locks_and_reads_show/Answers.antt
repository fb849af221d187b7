use Rattle.ctr_sessions.proofs.Steps.{begin_shows, lock_shows, read_shows}
use Rattle.ctr_sessions.proofs.laws.locks_and_reads_show.Goals as goal

pub returns-clause-begin : goal.returns-clause-begin
returns-clause-begin c = begin_shows

pub returns-clause-lock : goal.returns-clause-lock
returns-clause-lock c = lock_shows

pub returns-clause-read : goal.returns-clause-read
returns-clause-read c = read_shows
