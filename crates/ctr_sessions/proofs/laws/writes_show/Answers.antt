use Rattle.ctr_sessions.proofs.Steps.{row_shows, name_shows, room_shows}
use Rattle.ctr_sessions.proofs.laws.writes_show.Goals as goal

pub returns-clause-row : goal.returns-clause-row
returns-clause-row c = row_shows

pub returns-clause-name : goal.returns-clause-name
returns-clause-name c = name_shows

pub returns-clause-room : goal.returns-clause-room
returns-clause-room c = room_shows
