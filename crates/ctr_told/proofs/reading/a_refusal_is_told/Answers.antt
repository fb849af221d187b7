use Rattle.std.proofs.Common.{refl, subst}
use Rattle.ctr_types.specs.declared.tape.Reply.TheVariants as reply
use Rattle.ctr_views.specs.actions_Sites.{site_of}
use Rattle.ctr_rollback.specs.kept_Turns.{KeepsRun, entry_of, telling}
use Rattle.ctr_rollback.specs.kept_Walk.{Mind}
use Rattle.ctr_told.proofs.Silent.{carries_its, same_carried}
use Rattle.ctr_told.proofs.reading.a_refusal_is_told.Goals as goal

pub returns-clause-inside : goal.returns-clause-inside
returns-clause-inside g c = λ run opened a b w s tells x why comes rested.
    let seat = tells.seat in
    let e = tells.e in
    let now = g.D.Disk.moment_of a.disk in
    let site = site_of a.now in
    let world = tells.keeps in
    let walked = c.locks_and_reads_are_kept.ensures.refused run now s site w seat e x why (w.facts s) world.walks comes (carries_its run now s site w world.walks seat) in
    c.an_entry_alone_is_kept.ensures run opened a b w (telling e x (reply.Refused why) w w) (entry_of s e x (reply.Refused why)) world refl
    (subst (λ (m : Mind). KeepsRun run e.later site (telling e x (reply.Refused why) w m)) (same_carried s w) walked) tells.at_end refl refl (λ r d p h at in_. (d, at, in_)) rested

pub returns-clause-outside : goal.returns-clause-outside
returns-clause-outside g c = λ run opened a b w s tells x why comes rested.
    let e = tells.e in
    let walked = c.a_refusal_outside_is_kept.ensures run (g.D.Disk.moment_of a.disk) s (site_of a.now) w e x why tells.keeps.walks tells.none comes in
    c.an_entry_alone_is_kept.ensures run opened a b w (telling e x (reply.Refused why) w w) (entry_of s e x (reply.Refused why)) tells.keeps refl walked tells.at_end refl refl (λ r d p h at in_. (d, at, in_)) rested
