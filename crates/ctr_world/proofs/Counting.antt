-- A World whose loaded table was counted: pages were read.
use Rattle.std.proofs.Common.{◌≡◌, false, List, [], drop, Result, Ok, Err, sym, ◌∙◌, ap, subst}
use Rattle.std.specs.Prelude.{IsTrue, OnOk, IfOk, IfErr}
use Rattle.std.proofs.lemmas.List.{append-nil}
use Rattle.std.proofs.Math.Seq.{drop-nil}
use Rattle.ctr_types.specs.declared.tape.Entry.{Entry}
use Rattle.ctr_disk.specs.declared.disk.Disk.{Ghosts}
use Rattle.ctr_disk.specs.declared.fault.StoreFault.{StoreFault}
use Rattle.ctr_disk.specs.declared.fault.StoreFault.TheVariants.{Fault}
use Rattle.ctr_disk.specs.Image.{Image}
use Rattle.ctr_base.specs.Base.{IsSoundImage}
use Rattle.ctr_model.specs.Database.{after_all}
use Rattle.ctr_rec.specs.declared.record.Record.{Record}
use Rattle.ctr_redo.specs.States.{State}
use Rattle.ctr_undo.specs.kept_Turns.{Start, state_now}
use Rattle.ctr_undo.specs.kept_Walk.{Mind}
use Rattle.ctr_undo.specs.page_turns_Turns.{RestsBehind}
use Rattle.ctr_undo.specs.stops_World.{KeepsWorld}
use Rattle.ctr_undo.specs.walk_Damage.{ReadsPages}
use Rattle.ctr_store.specs.Store.{View, LeavesFront}
use Rattle.ctr_pass.specs.session_world_World.{SessionsHeld, InWorld}
use Rattle.ctr_pass.specs.exec_Sessions.{OrFails, sessions_held_by}
use Rattle.ctr_pass.proofs.session_world_Resting.{world_rests}
use Rattle.ctr_totals.specs.declared.counting.Totals.{Totals}
use Rattle.ctr_totals.specs.Totals.{AreTotals}
use Rattle.ctr_world.specs.declared.opening.Opening.{Ghosts as Opening}
use Rattle.ctr_world.specs.Held.{Running}
use Rattle.ctr_world.specs.World.{IsWorldReady, Shows, rows_asked, start_in}
use Rattle.ctr_world.proofs.Quiet.{behind, ready_behind, world_behind}

-- pages that are read keep each World
abbrev pub ReadingKeeps : {D : Type 0} → Ghosts D → Type 0
ReadingKeeps {D} g = (c : Start) (opened : D) (a m : View D) (w : Mind) → KeepsWorld g c opened a w → RestsBehind g a m → KeepsWorld g c opened m w

module _ {D : Type 0} (first : Image) (g : Ghosts D) (a b : View D) where
  pub world_counted : {T : Type 0} (r : Result T StoreFault) (law : ReadingKeeps g) (c : Start) (opened : D) (h : SessionsHeld) (w : Mind) → IsTrue g.tells → IsSoundImage first → ReadsPages first g a b r
      → (b.stopped ≡ false → LeavesFront g b b) → IfErr r (λ f. f ≡ Fault) → InWorld g c opened a h w → OrFails (InWorld g c opened b h w) r
  world_counted (Ok x) law c opened h w tells sound read rests refused world =
      let logs = read.logs tells sound in
      let rested : RestsBehind g a b = record { logs = logs; front = read.any_moment tells sound; rests = rests read.going; later = read.time.later } in
      world_rests g c opened a b h w world logs.now (law c opened a b w world.keeps rested)
  world_counted (Err e) law c opened h w tells sound read rests refused world = refused

  pub none_waits : {T : Type 0} (r : Result T StoreFault) → ReadsPages first g a b r → IsTrue g.tells → IsSoundImage first → a.waiting ≡ [] → OnOk r (b.waiting ≡ [])
  none_waits (Ok x) read tells sound none =
      let logs = read.logs tells sound in
      logs.waiting ∙ append-nil (drop logs.j a.waiting) ∙ ap (λ (rs : List Record). drop logs.j rs) none ∙ drop-nil logs.j
  none_waits (Err e) read tells sound none = tt

module _ {D B : Type 0} (o : Opening B) (first : Image) (g : Ghosts D) (old : Running D) (b : View D) where
  pub ready_counted : {T : Type 0} (r : Result T StoreFault) → ReadsPages first g old.store b r → IsWorldReady o g old → OnOk r (IsWorldReady o g (behind o first g old b))
  ready_counted (Ok x) read ready = ready_behind o first g old b read.keeps read.going read.time.later ready
  ready_counted (Err e) read ready = tt

  pub shows_counted : {T : Type 0} (r : Result T StoreFault) (s : State) → ReadsPages first g old.store b r
      → ((c : Start) (opened : D) (h : SessionsHeld) (w : Mind) → InWorld g c opened old.store h w → OrFails (InWorld g c opened b h w) r)
      → IsTrue g.tells → IsSoundImage first → Shows o first g s old → OrFails (Shows o first g s (behind o first g old b)) r
  shows_counted (Ok x) s read kept tells sound shows = world_behind o first g old b s (read.logs tells sound).now kept shows
  shows_counted (Err e) s read kept tells sound shows = kept (start_in o s) shows.opened (sessions_held_by old.sessions) shows.mind shows.shows.world

-- the rows that a tape has led to are those that what is shown has led to
pub totals_asked : {D B : Type 0} (o : Opening B) (first : Image) (g : Ghosts D) (s : State) (w : Running D) (shows : Shows o first g s w) (r : Result Totals StoreFault)
    → IfOk r (AreTotals (after_all (state_now (start_in o s) shows.mind).asked (state_now (start_in o s) shows.mind).base)) → IfOk r (AreTotals (rows_asked o s w.sessions.tape.items))
totals_asked o first g s w shows r counts = subst (λ (es : List Entry). IfOk r (AreTotals (rows_asked o s es))) (sym shows.shows.tape) counts
