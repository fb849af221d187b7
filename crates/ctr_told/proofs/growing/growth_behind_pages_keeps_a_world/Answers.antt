use Rattle.std.proofs.Common.{[], refl, sym, ap, subst}
use Rattle.std.proofs.lemmas.List.{append-nil}
use Rattle.ctr_model.specs.Texts.{answers}
use Rattle.ctr_redo.specs.States.{State}
use Rattle.ctr_rollback.specs.store_Store.{View}
use Rattle.ctr_views.specs.actions_Sites.{site_of}
use Rattle.ctr_rollback.specs.kept_Turns.{KeepsRun}
use Rattle.ctr_told.proofs.Counts.{grown_few, grown_above}
use Rattle.ctr_told.proofs.growing.growth_behind_pages_keeps_a_world.Goals as goal

pub returns : goal.returns
returns g c = λ run opened a b w world first x told sound some.
    let m = some.between in
    let read = some.read in
    let logs = read.logs told sound in
    let now = g.D.Disk.moment_of a.disk in
    let later = g.D.Disk.moment_of m.disk in
    let n = m.now.counted in
    let walks = subst (λ (s : State). KeepsRun run later (site_of s) w) (sym logs.now) (c.time_and_growth_are_kept.ensures.time run now later (site_of a.now) w world.walks read.time.later) in
    let here = c.a_turn_of_a_world_is_kept.ensures.none run opened a m w w [] world (sym (append-nil w.tape)) walks (record { at = tt; none = ap answers (append-nil w.tape) }) refl (λ r d p h at in_. (d, at, in_))
    (read.any_moment told sound) (some.rests told sound) logs in
    c.answers_and_growth_are_kept.ensures.growth run opened m b w here (grown_few n) (grown_above n some.more.few) (some.more.any_moment told sound) (some.more.grows told sound)
    (ap (λ (v : View g.row.D.Denot). v.waiting) some.more.counts.same)
