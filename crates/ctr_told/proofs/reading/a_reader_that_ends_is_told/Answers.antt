use Rattle.std.proofs.Common.{refl}
use Rattle.ctr_types.specs.declared.tape.Act.TheVariants as act
use Rattle.ctr_types.specs.declared.tape.Reply.TheVariants as reply
use Rattle.ctr_model.proofs.Sessions.{find-without-other}
use Rattle.ctr_views.specs.actions_Sites.{site_of}
use Rattle.ctr_rollback.specs.kept_Turns.{entry_of, gone_mind, telling}
use Rattle.ctr_told.proofs.Silent.{none_more}
use Rattle.ctr_told.proofs.reading.a_reader_that_ends_is_told.Goals as goal

pub returns-clause-commit : goal.returns-clause-commit
returns-clause-commit g c = λ run opened a b w s tells zero_ comes rested.
    let e = tells.e in
    let v = telling e act.Ask reply.ReadOnly w (gone_mind s w) in
    let walked = c.a_reader_ends.ensures.commit run (g.D.Disk.moment_of a.disk) s (site_of a.now) w tells.seat e tells.keeps.walks comes zero_ in
    c.an_entry_alone_is_kept.ensures run opened a b w v (entry_of s e act.Ask reply.ReadOnly) tells.keeps refl walked tells.at_end refl refl (none_more s w v (λ r two. find-without-other r s w.run.sessions two) refl) rested

pub returns-clause-rollback : goal.returns-clause-rollback
returns-clause-rollback g c = λ run opened a b w s tells zero_ comes rested.
    let e = tells.e in
    let v = telling e act.Rollback reply.RolledBack w (gone_mind s w) in
    let walked = c.a_reader_ends.ensures.rollback run (g.D.Disk.moment_of a.disk) s (site_of a.now) w tells.seat e tells.keeps.walks comes zero_ in
    c.an_entry_alone_is_kept.ensures run opened a b w v (entry_of s e act.Rollback reply.RolledBack) tells.keeps refl walked tells.at_end refl refl (none_more s w v (λ r two. find-without-other r s w.run.sessions two) refl) rested
