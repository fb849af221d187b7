-- What a session counts on between two of its statements, in a World: by the model, and by the program.
use Rattle.std.proofs.Common.{inl, inr, ℕ, List, [], subst}
use Rattle.ctr_disk.specs.declared.disk.Disk.{Ghosts}
use Rattle.ctr_told.specs.actions_Facts.{Fact}
use Rattle.ctr_told.specs.store_Store.{View}
use Rattle.ctr_versions.proofs.Keys.{known}
use Rattle.ctr_told.specs.kept_Turns.{Start, InTransaction}
use Rattle.ctr_told.specs.kept_Walk.{Mind}
use Rattle.ctr_told.specs.Turning.{IdleCountsOn}
use Rattle.ctr_session_world.specs.World.{SessionsHeld, InWorld}
use Rattle.ctr_session_world.specs.Told.{IsIdleBy, IsIdleIn}

-- so it is by the number that the program has
pub idle_seat : {D : Type 0} (g : Ghosts D) (c : Start) (opened : D) (v : View D) (h : SessionsHeld) (w : Mind) (s : ℕ) → InWorld g c opened v h w → (seat : InTransaction c w s) → IsIdleIn c w s
    → (more : List Fact) × IdleCountsOn seat.session.me more (w.facts s)
idle_seat g c opened v h w s world seat idle =
    let its = subst (λ o. IsIdleBy o (w.facts s)) seat.is_t idle in
    let drawn = world.keeps.walks.scene.begun.drawn s seat.t seat.session seat.is_t seat.at in
    known seat.t.writer
    (λ yes. let counts = its.0 yes in (counts.0, inl (drawn.writer yes, counts.1, counts.2)))
    (λ no. ([], inr (drawn.reader no, its.1 no)))
