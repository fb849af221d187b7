use Rattle.ctr_walk.proofs.Joins.{fronts_join, times_join, logs_join, rooms_join, pages_join}
use Rattle.ctr_walk.proofs.joining.pages_read_join.Goals as goal

pub returns-clause-moments : goal.returns-clause-moments
returns-clause-moments g c = λ x y z. fronts_join g.D.Disk x y z

pub returns-clause-logs : goal.returns-clause-logs
returns-clause-logs g c = λ rs x y z. logs_join g.D.Disk x y z rs

pub returns-clause-room : goal.returns-clause-room
returns-clause-room g c = λ x y z. rooms_join g.D.Disk x y z

pub returns-clause-time : goal.returns-clause-time
returns-clause-time g c = λ x y z. times_join g.D.Disk x y z

pub returns-clause-pages : goal.returns-clause-pages
returns-clause-pages g c = λ first v x y z result. pages_join g.D.Disk x y z first g.row.S.Denot g.row.T.Denot v result
