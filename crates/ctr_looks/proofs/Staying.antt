-- An act that nothing speaks against, behind pages that were read: nothing does then.
use Rattle.std.proofs.Common.{◌≡◌, true, ℕ, ◌≤◌, List, Option, Some, None, sym, subst}
use Rattle.ctr_disk.specs.declared.disk.Disk.{Ghosts}
use Rattle.ctr_types.specs.declared.statement.Statement.{Statement}
use Rattle.ctr_types.specs.declared.tape.Act.{Act}
use Rattle.ctr_area.specs.Images.{is_live}
use Rattle.ctr_redo.specs.States.{State as Stored}
use Rattle.ctr_record_effects.specs.States.{area_in}
use Rattle.ctr_names.specs.Search.{IsEntryFound}
use Rattle.ctr_session_world.specs.actions_Facts.{Fact}
use Rattle.ctr_asking.specs.ctr_wishes.actions_Sites.{site_of}
use Rattle.ctr_versions.specs.Engine.{SessionHeld}
use Rattle.ctr_store.specs.Store.{View}
use Rattle.ctr_locks.specs.Shows.{IsOnlyEntry}
use Rattle.ctr_session_world.specs.kept_Turns.{Start}
use Rattle.ctr_session_world.specs.stops_World.{KeepsWorld}
use Rattle.ctr_session_world.specs.page_turns_Turns.{RestsBehind}
use Rattle.ctr_asking.specs.Asking.{sees_for}
use Rattle.ctr_asking.specs.declared.asker.Answer.TheVariants.{Free}
use Rattle.ctr_session_world.specs.World.{SessionsHeld, names_in}
use Rattle.ctr_session_world.specs.ctr_told.Turning.{IdleCountsOn}
use Rattle.ctr_session_world.specs.Told.{IsIdleIn, IsNextOf}
use Rattle.ctr_session_world.proofs.Idling.{idle_seat}
use Rattle.ctr_session_world.proofs.Going.{goes, pages}
use Rattle.ctr_looks.specs.declared.taking.RowAt.{RowAt}
use Rattle.ctr_looks.specs.Granting.{IsUnopposed, WritesRowOf}
use Rattle.ctr_looks.specs.Asked.{IsAsked, IsFoundFor, StandsAt}

module _ {D : Type 0} (g : Ghosts D) (c : Start) (opened : D) (a m b : View D) (h : SessionsHeld) (s : ℕ) (statement : Statement) (made : ℕ) (next : IsNextOf g c opened a b h s statement made)
    (rested : RestsBehind g a m) (keeps : KeepsWorld g c opened m next.mind) (later : g.moment_of m.disk ≤ g.moment_of b.disk) where
  abbrev now_next : IsNextOf g c opened m b h s statement made
  now_next = goes g c opened a m b h s statement made next rested keeps later

  same : m.now ≡ a.now
  same = pages g c opened a m b h s statement made next rested keeps later

  -- nothing speaks against it that didn't before
  abbrev pub goes_free : (x : Act) → IsUnopposed next x → IsUnopposed now_next x
  goes_free x free = record { txn = free.txn; in_it = free.in_it; seat = free.seat; same = free.same; calm = free.calm; free = free.free }

  -- and the table that was found is still there
  pub goes_stands : (x : Act) (free : IsUnopposed next x) (name : List ℕ) (e : ℕ) → StandsAt free name e → StandsAt (goes_free x free) name e
  goes_stands x free name e stands = record {
    inside = stands.inside;
    found = subst (λ (q : Stored). IsEntryFound (sees_for (site_of q) free.txn) name (area_in q) e) (sym same) stands.found;
    title = subst (λ (q : Stored). names_in q e ≡ name) (sym same) stands.title;
    live = subst (λ (q : Stored). is_live ((area_in q).title e) ≡ true) (sym same) stands.live;
    undropped = subst (λ (q : Stored). ((area_in q).title e).dropper ≡ 0) (sym same) stands.undropped;
    only = λ key. subst (λ (q : Stored). IsOnlyEntry (names_in q) s e key h.locks) (sym same) (stands.only key);
  }

  pub goes_found : (x : Act) (free : IsUnopposed next x) (name : List ℕ) (found : Option ℕ) → IsFoundFor free name found → IsFoundFor (goes_free x free) name found
  goes_found x free name None stands = tt
  goes_found x free name (Some e) stands = goes_stands x free name e stands

  pub goes_row : (row : RowAt) → WritesRowOf next row → WritesRowOf now_next row
  goes_row row of = record {
    named = of.named;
    key = of.key;
    inside = of.inside;
    title = subst (λ (q : Stored). names_in q row.entry ≡ row.name.now) (sym same) of.title;
    live = subst (λ (q : Stored). is_live ((area_in q).title row.entry) ≡ true) (sym same) of.live;
    undropped = subst (λ (q : Stored). ((area_in q).title row.entry).dropper ≡ 0) (sym same) of.undropped;
    only = subst (λ (q : Stored). IsOnlyEntry (names_in q) s row.entry row.key h.locks) (sym same) of.only;
  }

-- who isn't refused is free
abbrev pub free_of : {D : Type 0} (g : Ghosts D) (c : Start) (opened : D) (a b : View D) (h : SessionsHeld) (s : ℕ) (statement : Statement) (made : ℕ) (next : IsNextOf g c opened a b h s statement made) (x : Act) (found : Option ℕ)
    → IsAsked next x (Free found) → IsUnopposed next x
free_of g c opened a b h s statement made next x None is = is.1
free_of g c opened a b h s statement made next x (Some e) is = is.0

-- what a free session counts on, by its number
pub idle_free : {D : Type 0} (g : Ghosts D) (c : Start) (opened : D) (a b : View D) (h : SessionsHeld) (s : ℕ) (statement : Statement) (made : ℕ) (next : IsNextOf g c opened a b h s statement made) (x : Act) (free : IsUnopposed next x)
    → IsIdleIn c next.mind s → (more : List Fact) × IdleCountsOn free.txn.session.me more (next.mind.facts s)
idle_free g c opened a b h s statement made next x free idle =
    let its = idle_seat g c opened a h next.mind s next.world free.seat idle in
    (its.0, subst (λ (q : SessionHeld). IdleCountsOn q.me its.0 (next.mind.facts s)) free.same its.1)
