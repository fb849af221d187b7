use Rattle.ctr_record_effects.specs.States.{area_in}
use Rattle.ctr_locking.proofs.Locked.{said_named}
use Rattle.ctr_locking.proofs.locking.is_locked_in.Goals as goal

pub returns-in-Some-clause-tells : goal.returns-in-Some-clause-tells
returns-in-Some-clause-tells g c = λ told sound taken.
    said_named c.args.locks.now (area_in c.args.store.now.now) c.args.entry c.args.key c.args.other c.in-Some.field-0 (c.locked.ensures.holder.someone c.in-Some.field-0 c.in-Some.is) c.is_named_as.result
    (c.is_named_as.ensures.tells told sound taken)
