use Rattle.std.proofs.Common.{◌≡◌, Option, Ok, Err, subst}
use Rattle.ctr_walk.specs.redo_States.{State}
use Rattle.ctr_actions.specs.Sites.{site_of}
use Rattle.ctr_walk.proofs.Damages.{reads_err}
use Rattle.ctr_walk.proofs.Joins.{answers_ok}
use Rattle.ctr_cursor.proofs.reading_Told.{reads_behind}
use Rattle.ctr_cursor.specs.declared.position.Position.{Position}
use Rattle.ctr_cursor.specs.declared.position.Position.TheVariants.{Slot}
use Rattle.ctr_cursor.specs.Pass.{next_position}
use Rattle.ctr_totals.proofs.counting.count_one.Goals as goal

pub returns-in-Err-clause-refused : goal.returns-in-Err-clause-refused
returns-in-Err-clause-refused g c = λ told sound database columns position.
    c.in-Err.ensures.refused c.args.slot.entry told sound database columns (c.a_pass_goes_from_position_to_position.ensures.slots (site_of c.args.store.now.now) c.args.slot.entry c.args.slot.bucket c.args.slot.place position)

pub returns-in-Err-clause-leaves : goal.returns-in-Err-clause-leaves
returns-in-Err-clause-leaves g c = reads_err g.O.Origin.first g.D.Disk _ _ c.in-Err.fault c.args.store.now c.seen_at.new.store c.in-Err.ensures.leaves

pub returns-in-Err-advance-clause-leaves : goal.returns-in-Err-advance-clause-leaves
returns-in-Err-advance-clause-leaves g c = reads_err g.O.Origin.first g.D.Disk (Option Position) _ c.in-Err-advance.fault c.args.store.now c.advance.new.store
    (reads_behind g.O.Origin.first g.D.Disk c.in-Ok.number (Err c.in-Err-advance.fault) c.args.store.now c.seen_at.new.store c.advance.new.store c.in-Ok.ensures.leaves c.in-Err-advance.ensures.leaves)

pub returns-in-Ok-advance-clause-number : goal.returns-in-Ok-advance-clause-number
returns-in-Ok-advance-clause-number g c = λ told sound database columns position.
    c.in-Ok.ensures.tells c.args.slot.entry told sound database columns (c.a_pass_goes_from_position_to_position.ensures.slots (site_of c.args.store.now.now) c.args.slot.entry c.args.slot.bucket c.args.slot.place position)

pub returns-in-Ok-advance-clause-next : goal.returns-in-Ok-advance-clause-next
returns-in-Ok-advance-clause-next g c = λ told sound.
    subst (λ (u : State). c.in-Ok-advance.next ≡ next_position (site_of u) (Slot c.args.slot.entry c.args.slot.bucket c.args.slot.place)) (c.in-Ok.ensures.leaves.logs told sound).now (c.in-Ok-advance.ensures.next told sound)

pub returns-in-Ok-advance-clause-leaves : goal.returns-in-Ok-advance-clause-leaves
returns-in-Ok-advance-clause-leaves g c = answers_ok g.O.Origin.first g.D.Disk c.in-Ok-advance.next _ c.args.store.now c.advance.new.store
    (reads_behind g.O.Origin.first g.D.Disk c.in-Ok.number (Ok c.in-Ok-advance.next) c.args.store.now c.seen_at.new.store c.advance.new.store c.in-Ok.ensures.leaves c.in-Ok-advance.ensures.leaves)
