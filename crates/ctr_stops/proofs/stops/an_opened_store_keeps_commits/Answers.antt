use Rattle.ctr_stops.proofs.Opened.{now_is, kept_opened}
use Rattle.ctr_stops.proofs.stops.an_opened_store_keeps_commits.Goals as goal

pub returns-clause-now : goal.returns-clause-now
returns-clause-now g c = λ image s v stands opens. now_is g.D.Disk g.met.D.Disk.earlier image s v.disk v stands opens

pub returns-clause-commits : goal.returns-clause-commits
returns-clause-commits g c = λ image s disk v stands opens leaves. kept_opened g.D.Disk g.met.D.Disk.earlier image s disk v stands opens leaves
