use Rattle.std.proofs.Common.{sym, subst}
use Rattle.ctr_store.specs.Store.{LeavesPage}
use Rattle.ctr_walk.specs.OneRecord.{LogsOne}
use Rattle.ctr_walk.proofs.Records.{may_still, unread, logged_behind, refused_behind, one_behind}
use Rattle.ctr_walk.proofs.joining.a_record_behind_a_page.Goals as goal

pub returns-clause-may : goal.returns-clause-may
returns-clause-may g c = λ r a b keeps. may_still r a b keeps

pub returns-clause-logged : goal.returns-clause-logged
returns-clause-logged g c = λ first r a b d x y lsn page. logged_behind first g.D.Disk r a b d x page lsn y

pub returns-clause-refused : goal.returns-clause-refused
returns-clause-refused g c = λ first r a b d x e result page log is.
    subst (λ t. LogsOne first g.D.Disk r a d t) (sym is) (refused_behind first g.D.Disk r a b d x page e log)

pub returns-clause-unread : goal.returns-clause-unread
returns-clause-unread g c = λ first r a b e page result left was is.
    subst (λ t. LogsOne first g.D.Disk r a b t) (sym is) (unread first g.D.Disk r a b e (subst (λ p. LeavesPage first g.D.Disk a b p) was left))

pub returns-clause-behind : goal.returns-clause-behind
returns-clause-behind g c = λ first r a b d x result page one. one_behind first g.D.Disk r a b d x page result one
