use Rattle.std.proofs.Common.{Bool, true, false, Ok, Err}
use Rattle.ctr_pvs.proofs.walk_Damages.{reads_err}
use Rattle.ctr_pvs.proofs.walk_Joins.{answers_ok}
use Rattle.ctr_clean.specs.titles_TitleRead.{TitleRead}
use Rattle.ctr_cursor.proofs.reading_Told.{reads_behind}
use Rattle.ctr_emptying.specs.declared.left.Left.{Left}
use Rattle.ctr_emptying.proofs.entry.may_be_freed.Goals as goal

pub returns-in-Err-clause-leaves : goal.returns-in-Err-clause-leaves
returns-in-Err-clause-leaves g c = reads_err g.O.Origin.first g.D.Disk TitleRead Bool c.in-Err.fault c.args.store.now c.title_at.new.store c.in-Err.ensures.leaves

pub returns-in-Err-pages_left-clause-leaves : goal.returns-in-Err-pages_left-clause-leaves
returns-in-Err-pages_left-clause-leaves g c =
    let fault = c.in-Err-pages_left.fault in
    reads_err g.O.Origin.first g.D.Disk Left Bool fault c.args.store.now c.pages_left.new.store
    (reads_behind g.O.Origin.first g.D.Disk c.in-Ok.title (Err fault) c.args.store.now c.title_at.new.store c.pages_left.new.store c.in-Ok.ensures.leaves c.in-Err-pages_left.ensures.leaves)

pub returns-in-Ok-Rows-clause-leaves : goal.returns-in-Ok-Rows-clause-leaves
returns-in-Ok-Rows-clause-leaves g c =
    answers_ok g.O.Origin.first g.D.Disk c.in-Ok-Rows.field-0 false c.args.store.now c.pages_left.new.store
    (reads_behind g.O.Origin.first g.D.Disk c.in-Ok.title (Ok c.in-Ok-Rows.field-0) c.args.store.now c.title_at.new.store c.pages_left.new.store c.in-Ok.ensures.leaves c.in-Ok-Rows.ensures.leaves)

pub returns-in-Ok-Versions-clause-leaves : goal.returns-in-Ok-Versions-clause-leaves
returns-in-Ok-Versions-clause-leaves g c =
    answers_ok g.O.Origin.first g.D.Disk c.in-Ok-Versions.field-0 false c.args.store.now c.pages_left.new.store
    (reads_behind g.O.Origin.first g.D.Disk c.in-Ok.title (Ok c.in-Ok-Versions.field-0) c.args.store.now c.title_at.new.store c.pages_left.new.store c.in-Ok.ensures.leaves c.in-Ok-Versions.ensures.leaves)

pub returns-in-Ok-NoPage-clause-leaves : goal.returns-in-Ok-NoPage-clause-leaves
returns-in-Ok-NoPage-clause-leaves g c =
    answers_ok g.O.Origin.first g.D.Disk c.in-Ok-NoPage.field-0 true c.args.store.now c.pages_left.new.store
    (reads_behind g.O.Origin.first g.D.Disk c.in-Ok.title (Ok c.in-Ok-NoPage.field-0) c.args.store.now c.title_at.new.store c.pages_left.new.store c.in-Ok.ensures.leaves c.in-Ok-NoPage.ensures.leaves)
