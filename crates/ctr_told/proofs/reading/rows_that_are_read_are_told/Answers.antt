use Rattle.std.proofs.Common.{refl, sym, ◌∙◌, subst}
use Rattle.ctr_types.specs.declared.tape.Act.TheVariants as act
use Rattle.ctr_types.specs.declared.tape.Reply.TheVariants as reply
use Rattle.ctr_views.specs.actions_Sites.{site_of}
use Rattle.ctr_rollback.specs.kept_Turns.{KeepsRun, entry_of, telling}
use Rattle.ctr_rollback.specs.kept_Walk.{Mind}
use Rattle.ctr_model.specs.Reply.{with_read}
use Rattle.ctr_sessions.specs.Sessions.{IsDrawnFor}
use Rattle.std.specs.Prelude.{Some}
use Rattle.ctr_rollback.proofs.kept_Tables.{uses_more}
use Rattle.ctr_told.proofs.Granting.{read_so, read_writer}
use Rattle.ctr_told.proofs.Silent.{carries_idle, same_carried}
use Rattle.ctr_told.proofs.reading.rows_that_are_read_are_told.Goals as goal

pub returns : goal.returns
returns g c = λ run opened a b w s tells rows more idle comes rested.
    let seat = tells.seat in
    let e = tells.e in
    let now = g.D.Disk.moment_of a.disk in
    let site = site_of a.now in
    let world = tells.keeps in
    let so = read_so e.statement seat.t in
    let u = with_read (Some e.statement) seat.t in
    let was = world.walks.scene.begun.drawn s seat.t seat.session seat.is_t seat.at in
    let is = read_writer e.statement seat.t in
    let drawn : IsDrawnFor seat.session u = record { writer = λ yes. was.writer (sym is ∙ yes); reader = λ no. was.reader (sym is ∙ no) } in
    let walked = c.locks_and_reads_are_kept.ensures.read run now s site w seat e rows (w.facts s) world.walks comes so.0 so.1 drawn (carries_idle run now s site w world.walks seat more idle u (uses_more seat.t u so.2 so.1)) in
    let v = telling e act.Read (reply.Rows rows) w w in
    c.an_entry_alone_is_kept.ensures run opened a b w v (entry_of s e act.Read (reply.Rows rows)) world refl
    (subst (λ (m : Mind). KeepsRun run e.later site (telling e act.Read (reply.Rows rows) w m)) (same_carried s w) walked) tells.at_end refl refl (λ r d p h at in_. (d, at, in_)) rested
