use Rattle.std.proofs.Common.{◌/◌, [], ◌∷◌}
use Rattle.ctr_record_effects.specs.Changing.{laid_at, free_record}
use Rattle.ctr_alloc.specs.actions_Actions.{Reclaims}
use Rattle.ctr_dead.proofs.Three.{three_ok}
use Rattle.ctr_dead.proofs.forgetting.give_back.Goals as goal

pub returns-clause-acts : goal.returns-clause-acts
returns-clause-acts g c = λ x told sound database owed.
    let one = c.free.ensures.one in
    three_ok c.free.result
    (λ logs page is.
    c.a_record_acts.ensures x (Reclaims c.args.p) (free_record c.args.p one.0) c.args.store.now c.free.new.store logs owed is
    (c.pages_lie_as_their_actions.ensures.reclaims c.args.store.now.now c.args.p one.0 page, tt))
    (one.1.logs told sound) (c.free.ensures.whole told sound) (c.free.ensures.leaves x told sound)

pub returns-clause-refused : goal.returns-clause-refused
returns-clause-refused g c = λ told sound database owed.
    let one = c.free.ensures.one in
    c.a_record_is_refused_by_the_disk_alone.ensures 0 (Reclaims c.args.p) (laid_at 0 (c.args.p / 8) (one.0 ∷ [])) c.args.store.now c.free.new.store c.free.result database owed (c.meta-tables.ensures.now told sound c.requires.room.going) (one.1.refused told sound)
