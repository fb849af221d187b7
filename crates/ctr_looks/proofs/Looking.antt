-- The locks of keys in a World are of tables that are live and that nobody has dropped, but for those of who holds the name.
use Rattle.std.proofs.Common.{⊎_elim, sym, ◌∙◌}
use Rattle.std.proofs.lemmas.Bool.{false≢true}
use Rattle.ctr_disk.specs.declared.disk.Disk.{Ghosts}
use Rattle.ctr_record_effects.specs.States.{area_in}
use Rattle.ctr_session_world.specs.actions_Facts.{HasTable}
use Rattle.ctr_asking.specs.ctr_wishes.actions_Sites.{site_of}
use Rattle.ctr_store.specs.Store.{View}
use Rattle.ctr_session_world.specs.kept_Walk.{Mind}
use Rattle.ctr_session_world.specs.kept_Turns.{Start, state_now}
use Rattle.ctr_asking.specs.Asking.{AreOfTables}
use Rattle.ctr_session_world.specs.World.{SessionsHeld, InWorld}

pub of_tables : {D : Type 0} (g : Ghosts D) (c : Start) (opened : D) (v : View D) (h : SessionsHeld) (w : Mind) → InWorld g c opened v h w → AreOfTables (site_of v.now) h.locks (state_now c w)
of_tables g c opened v h w world r e key u is at free =
    let its = world.tables r e key u is at in
    ⊎_elim
    (λ held. absurd (false≢true (sym free ∙ held)))
    (λ counted.
    let under = world.keeps.walks.scene.carried.under r u (HasTable e ((area_in v.now).title e)) at counted in
    (its.inside, under.0, under.2))
    its.counted
