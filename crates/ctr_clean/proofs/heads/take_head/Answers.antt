use Rattle.std.proofs.Common.{◌≡◌, subst}
use Rattle.std.specs.Prelude.{IfErr}
use Rattle.ctr_disk.specs.declared.fault.StoreFault.TheVariants.{Fault}
use Rattle.ctr_pvs.specs.redo_States.{State}
use Rattle.ctr_record_laws.specs.Owed.{OwedByRevert}
use Rattle.ctr_record_effects.specs.States.{area_in}
use Rattle.ctr_record_effects.specs.Standing.{IsDatabaseState}
use Rattle.ctr_clean.proofs.heads.take_head.Goals as goal

pub returns-in-Ok-clause-turns : goal.returns-in-Ok-clause-turns
returns-in-Ok-clause-turns g c = c.a_turn_goes_on.ensures.behind g.O.Origin.first c.args.store.now c.look_behind.new.store c.take_read.new.store c.in-Ok.field-0 c.take_read.result c.in-Ok.ensures.leaves c.take_read.ensures.turns

pub returns-in-Ok-clause-refused : goal.returns-in-Ok-clause-refused
returns-in-Ok-clause-refused g c = λ e way told sound.
    subst (λ (u : State). IsDatabaseState u → OwedByRevert u.tables (area_in u) e c.args.place way → IfErr c.take_read.result (λ f. f ≡ Fault)) (c.in-Ok.ensures.leaves.logs told sound).now
    (c.take_read.ensures.refused e way told sound)
