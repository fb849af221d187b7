use Rattle.ctr_locks.proofs.Shown.{lock_shows, use_shows, hold_shows, room_shows, release_shows, begin_shows}
use Rattle.ctr_locks.proofs.laws.key_locks_show.Goals as goal

pub returns-clause-lock : goal.returns-clause-lock
returns-clause-lock c = lock_shows

pub returns-clause-uses : goal.returns-clause-uses
returns-clause-uses c = use_shows

pub returns-clause-hold : goal.returns-clause-hold
returns-clause-hold c = hold_shows

pub returns-clause-room : goal.returns-clause-room
returns-clause-room c = room_shows

pub returns-clause-release : goal.returns-clause-release
returns-clause-release c = release_shows

pub returns-clause-begin : goal.returns-clause-begin
returns-clause-begin c = begin_shows
