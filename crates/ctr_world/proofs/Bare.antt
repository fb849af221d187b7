-- What an idle cleaner has left, where no session is in a transaction and nothing is left of undo.
use Rattle.std.proofs.Common.{◌≡◌, IsTrue, List, [], None, ◌∙◌, ap, subst}
use Rattle.std.specs.Prelude.{length}
use Rattle.ctr_types.specs.declared.tape.Actor.{Actor}
use Rattle.ctr_types.specs.declared.tape.Actor.TheVariants as actor
use Rattle.ctr_types.specs.declared.tape.Entry.{Entry}
use Rattle.ctr_types.specs.declared.tape.Turn.{Turn}
use Rattle.ctr_types.specs.declared.tape.Turn.TheVariants as turn
use Rattle.ctr_disk.specs.declared.disk.Disk.{Ghosts}
use Rattle.ctr_disk.specs.Image.{Image}
use Rattle.ctr_model.specs.State.{transaction_of}
use Rattle.ctr_rec.specs.declared.record.SlogItem.{SlogItem}
use Rattle.ctr_area.specs.Sound.{IsBare}
use Rattle.ctr_redo.specs.States.{State}
use Rattle.ctr_record_effects.specs.States.{area_in}
use Rattle.ctr_record_effects.specs.Standing.{IsDatabaseState, StandsForDatabase}
use Rattle.ctr_store.specs.Store.{View}
use Rattle.ctr_undo.specs.kept_Turns.{Start, state_now}
use Rattle.ctr_undo.specs.kept_Walk.{Mind}
use Rattle.ctr_undo.specs.Left.{UndoLeft}
use Rattle.ctr_pass.specs.exec_sessions_Sessions.{Sessions}
use Rattle.ctr_pass.specs.exec_Sessions.{ShowsSessions}
use Rattle.ctr_pass.specs.declared.pass.Pass.{Pass}
use Rattle.ctr_pass.specs.declared.pass.Phase.TheVariants.{Idle}
use Rattle.ctr_pass.specs.Keeping.{HasNoneOpen, KeepsPass, PassedOver}
use Rattle.ctr_pass.specs.Passing.{noted}
use Rattle.ctr_pass.specs.Sparing.{IsNobodyInside}
use Rattle.ctr_world.specs.declared.opening.Opening.{Ghosts as Opening}
use Rattle.ctr_world.specs.Cleaning.{IsIdlePass}
use Rattle.ctr_world.specs.Held.{Held, Running}
use Rattle.ctr_world.specs.Turns.{EndsTurn}
use Rattle.ctr_world.specs.World.{HasNobodyLeft, Kept, Shows, led_to, passed_over, start_in}

-- the cleaner said that it is idle
pub idle_of : {D : Type 0} (g : Ghosts D) (t : Turn) (a : Actor) (old new : Held D) → EndsTurn g t a old new → a ≡ actor.Cleaner → t ≡ turn.Idle → (old.stop ≡ None) × IsIdlePass old.running
idle_of g t a old new ends a_is t_is =
    let it = subst (λ (x : Turn). EndsTurn g x actor.Cleaner old new) t_is (subst (λ (x : Actor). EndsTurn g t x old new) a_is ends) in
    (it.0, it.2)

module _ {D B : Type 0} (o : Opening B) (first : Image) (g : Ghosts D) (p : Held D) (kept : Kept o first g p) (going : p.stop ≡ None) (s : State) (tells : IsTrue g.tells) (stands : StandsForDatabase first s)
    (none_open : (c : Start) (opened : D) (v : View D) (h : Sessions) (w : Mind) → ShowsSessions g c opened v h w → IsNobodyInside (state_now c w) → w.undo.orphans ≡ [] → v.now.tables.opens ≡ [])
    (leaves : (q : Pass) (v : PassedOver) → KeepsPass q v → (noted q v.next v.tape).phase ≡ Idle → HasNoneOpen v → v.undos ≡ 0 → IsDatabaseState v.state → IsBare v.state.tables (area_in v.state))
    (quiet : HasNobodyLeft o s p.running) where
  abbrev w : Running D
  w = p.running

  abbrev shows : Shows o first g s w
  shows = kept.shows s tells stands going

  at_rest : HasNoneOpen (passed_over o s w)
  at_rest = record {
    nobody = quiet.nobody;
    opens = none_open (start_in o s) shows.opened w.store w.sessions shows.mind shows.shows (λ q. subst (λ (es : List Entry). transaction_of (led_to o s es).state q ≡ None) shows.shows.tape (quiet.nobody q))
        (ap (λ (u : UndoLeft). u.orphans) shows.undo ∙ quiet.over.1);
  }

  pub bare : IsIdlePass w → IsBare w.store.now.tables (area_in w.store.now)
  bare idle = leaves w.pass (passed_over o s w) (kept.pass s tells stands going) idle at_rest (ap (λ (is : List SlogItem). length is) quiet.over.0) shows.shows.world.keeps.pages.sound
