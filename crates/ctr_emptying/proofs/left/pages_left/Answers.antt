use Rattle.std.proofs.Common.{ℕ, Option, Ok, Err}
use Rattle.ctr_pvs.proofs.walk_Damages.{reads_err}
use Rattle.ctr_pvs.proofs.walk_Joins.{answers_ok}
use Rattle.ctr_cursor.proofs.reading_Told.{reads_behind}
use Rattle.ctr_emptying.specs.declared.left.Left.{Left}
use Rattle.ctr_emptying.specs.declared.left.Left.TheVariants.{Versions, NoPage}
use Rattle.std.proofs.Common.{Bool}
use Rattle.ctr_emptying.proofs.left.pages_left.Goals as goal

pub returns-in-Err-clause-leaves : goal.returns-in-Err-clause-leaves
returns-in-Err-clause-leaves g c = reads_err g.O.Origin.first g.D.Disk Bool Left c.in-Err.fault c.args.store.now c.has_rows.new.store c.in-Err.ensures.leaves

pub returns-in-Err-first_page-clause-leaves : goal.returns-in-Err-first_page-clause-leaves
returns-in-Err-first_page-clause-leaves g c =
    let fault = c.in-Err-first_page.fault in
    reads_err g.O.Origin.first g.D.Disk (Option ℕ) Left fault c.args.store.now c.first_page.new.store
    (reads_behind g.O.Origin.first g.D.Disk c.in-Ok-false.field-0 (Err fault) c.args.store.now c.has_rows.new.store c.first_page.new.store c.in-Ok-false.ensures.leaves c.in-Err-first_page.ensures.leaves)

pub returns-in-Ok-None-clause-leaves : goal.returns-in-Ok-None-clause-leaves
returns-in-Ok-None-clause-leaves g c =
    answers_ok g.O.Origin.first g.D.Disk c.in-Ok-None.field-0 NoPage c.args.store.now c.first_page.new.store
    (reads_behind g.O.Origin.first g.D.Disk c.in-Ok-false.field-0 (Ok c.in-Ok-None.field-0) c.args.store.now c.has_rows.new.store c.first_page.new.store c.in-Ok-false.ensures.leaves c.in-Ok-None.ensures.leaves)

pub returns-in-Ok-Some-clause-leaves : goal.returns-in-Ok-Some-clause-leaves
returns-in-Ok-Some-clause-leaves g c =
    answers_ok g.O.Origin.first g.D.Disk c.in-Ok-Some.field-0 (Versions c.in-Ok-Some.p) c.args.store.now c.first_page.new.store
    (reads_behind g.O.Origin.first g.D.Disk c.in-Ok-false.field-0 (Ok c.in-Ok-Some.field-0) c.args.store.now c.has_rows.new.store c.first_page.new.store c.in-Ok-false.ensures.leaves c.in-Ok-Some.ensures.leaves)
