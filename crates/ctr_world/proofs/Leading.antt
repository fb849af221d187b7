-- A World behind turns of its sessions.
use Rattle.std.proofs.Common.{◌≡◌, ◌≢◌, ℕ, ◌≤◌, true, false, List, sym, ◌∙◌, ap, subst}
use Rattle.std.specs.List.{AllByRecursion}
use Rattle.ctr_model.specs.State.{has_name}
use Rattle.ctr_pass.specs.session_world_Ready.{StandOver}
use Rattle.ctr_pass.specs.session_world_World.{NamesStay}
use Rattle.ctr_pass.specs.exec_Order.{Adds}
use Rattle.ctr_types.specs.declared.tape.Entry.{Entry}
use Rattle.ctr_disk.specs.declared.disk.Disk.{Ghosts}
use Rattle.ctr_disk.specs.Image.{Image}
use Rattle.ctr_names.specs.Held.{names_of_items}
use Rattle.ctr_redo.specs.States.{State}
use Rattle.ctr_record_effects.specs.States.{area_in}
use Rattle.ctr_undo.specs.kept_Turns.{Start}
use Rattle.ctr_undo.specs.kept_Undo.{Undo}
use Rattle.ctr_undo.specs.kept_Walk.{Mind}
use Rattle.ctr_undo.specs.stops_World.{KeepsWorld}
use Rattle.ctr_store.specs.Store.{View}
use Rattle.ctr_undo.specs.Left.{UndoLeft}
use Rattle.ctr_undo.specs.Turns.{MayUndo}
use Rattle.ctr_undo.specs.Keeping.{list_of}
use Rattle.ctr_pass.specs.exec_sessions_Sessions.{Sessions}
use Rattle.ctr_pass.specs.exec_Sessions.{AreSeated, LeadsTo}
use Rattle.ctr_world.specs.declared.opening.Opening.{Ghosts as Opening}
use Rattle.ctr_world.specs.Held.{Running}
use Rattle.ctr_world.specs.World.{IsWorldReady, Shows, start_in}
use Rattle.ctr_world.specs.Turns.{AddsEntries}
use Rattle.ctr_world.proofs.Filling.{full_behind}
use Rattle.ctr_world.proofs.Passes.{place_more}

-- ---- whatever the disk tells

module _ {D B : Type 0} (o : Opening B) (g : Ghosts D) (old : Running D) (b : View D) (now : Sessions) (such : List Entry → Type 0) where
  pub ready_led : IsWorldReady o g old → old.store.now.counted ≤ b.now.counted → StandOver now.txns b → b.stopped ≡ false → AreSeated now b.now.counted → Adds such (g.moment_of old.store.disk) (g.moment_of b.disk) old.sessions now → IsWorldReady o g (record old { store = b; sessions = now })
  ready_led ready counted stand going seats adds = record {
    stand = stand;
    going = going;
    seats = seats;
    ordered = adds.order o.start ready.ordered;
    held = record {
      named = subst (λ (l : List (List ℕ)). AllByRecursion (λ (name : List ℕ). has_name name l ≡ true) old.names) (sym adds.stuck) ready.held.named;
      only = λ name is. ready.held.only name (subst (λ (l : List (List ℕ)). has_name name l ≡ true) adds.stuck is);
    };
    count = ready.count;
    lines = ready.lines;
    place = place_more old.store.now.counted b.now.counted counted old.pass.at ready.place;
  }

  pub adds_led : (before moment : ℕ) → Adds such before moment old.sessions now → AddsEntries such moment old (record old { store = b; sessions = now })
  adds_led before moment adds = record { entries = adds.entries; tape = adds.tape; are_such = adds.are_such; moments = adds.moments; script = adds.script }

-- ---- of a database

module _ {D B : Type 0} (o : Opening B) (first : Image) (g : Ghosts D) (s : State) (old : Running D) (b : View D) (now : Sessions) (shows : Shows o first g s old) where
  abbrev pub led : Running D
  led = record old { store = b; sessions = now }

  -- sessions were led on, and the names of what is left of undo are as they were
  pub shows_led : (such : List Entry → Type 0) → LeadsTo shows.shows such b now → names_of_items (area_in b.now).title old.undo.items ≡ names_of_items (area_in old.store.now).title old.undo.items
      → old.store.now.counted ≤ b.now.counted → Shows o first g s led
  shows_led such leads names counted = record {
    opened = shows.opened;
    on = shows.on;
    mind = leads.mind;
    shows = leads.shows;
    undo = ap (λ (u : Undo). record { items = u.items; orphans = u.orphans }) leads.undo ∙ shows.undo;
    names = names ∙ shows.names;
    numbered = ap (λ (u : Undo). u.first) leads.undo ∙ shows.numbered;
    full = full_behind old.store b shows.mind.tape leads.mind.tape leads.entries leads.tape leads.causes counted shows.full;
  }

module _ {D B : Type 0} (o : Opening B) (first : Image) (g : Ghosts D) (s : State) (old : Running D) (b : View D) (shows : Shows o first g s old) where
  -- entries that were taken keep their names, and so does what is left of undo
  pub names_led : ((c : Start) (opened : D) (a : View D) (w : Mind) → KeepsWorld g c opened a w → MayUndo (list_of w) a.now)
      → ((x y : State) (u : UndoLeft) → MayUndo u x → ((e : ℕ) → ((area_in x).title e).state ≢ 0 → ((area_in y).title e).name ≡ ((area_in x).title e).name) → names_of_items (area_in y).title u.items ≡ names_of_items (area_in x).title u.items)
      → NamesStay old.store.now b.now → names_of_items (area_in b.now).title old.undo.items ≡ names_of_items (area_in old.store.now).title old.undo.items
  names_led may named stay = named old.store.now b.now old.undo
      (subst (λ (u : UndoLeft). MayUndo u old.store.now) shows.undo (may (start_in o s) shows.opened old.store shows.mind shows.shows.world.keeps)) stay
