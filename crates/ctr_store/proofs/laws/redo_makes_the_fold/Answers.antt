use Rattle.ctr_store.proofs.RedoLaws.{redo_starts, tables_next, redo_ends}
use Rattle.ctr_store.proofs.laws.redo_makes_the_fold.Goals as goal

pub returns-clause-begins : goal.returns-clause-begins
returns-clause-begins g c s rests starts empty none = redo_starts g.O.Origin.first g.D.Disk s rests starts empty none

pub returns-clause-tables : goal.returns-clause-tables
returns-clause-tables g c start n r next = tables_next g.O.Origin.first g.D.Disk start n r next

pub returns-clause-ends : goal.returns-clause-ends
returns-clause-ends g c start n s doing all tables = redo_ends g.O.Origin.first g.D.Disk start n s doing all tables
