use Rattle.std.proofs.Common.{[], refl, sym, ap, subst}
use Rattle.std.proofs.lemmas.List.{append-nil}
use Rattle.ctr_redo.specs.States.{State as Stored}
use Rattle.ctr_model.specs.Texts.{answers}
use Rattle.ctr_told.specs.actions_Sites.{site_of}
use Rattle.ctr_told.specs.kept_Turns.{KeepsRun}
use Rattle.ctr_session_world.proofs.behind.pages_that_are_read_keep_a_world.Goals as goal

pub returns : goal.returns
returns g c = λ run opened a m w world rested.
    let walks = c.time_and_growth_are_kept.ensures.time run (g.D.Disk.moment_of a.disk) (g.D.Disk.moment_of m.disk) (site_of a.now) w world.walks rested.later in
    c.a_turn_of_a_world_is_kept.ensures.none run opened a m w w [] world (sym (append-nil w.tape)) (subst (λ (q : Stored). KeepsRun run (g.D.Disk.moment_of m.disk) (site_of q) w) (sym rested.logs.now) walks)
    (record { at = tt; none = ap answers (append-nil w.tape) }) refl (λ r b p h at in_. (b, at, in_)) rested.front rested.rests rested.logs
