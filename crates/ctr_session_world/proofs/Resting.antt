-- A turn that logs nothing leaves the pages, and a refusal all but the tape.
use Rattle.std.proofs.Common.{◌≡◌, ℕ, ◌≤◌, ◌==◌, true, List, Some, refl, sym, ◌∙◌, ap, subst, arith}
use Rattle.std.proofs.lemmas.Bool.{eqb-true}
use Rattle.std.proofs.lemmas.List.{append-nil}
use Rattle.ctr_disk.specs.declared.disk.Disk.{Ghosts}
use Rattle.ctr_types.specs.declared.statement.Statement.{Statement}
use Rattle.ctr_types.specs.declared.tape.Act.{Act}
use Rattle.ctr_types.specs.declared.tape.Refusal.{Refusal}
use Rattle.ctr_types.specs.declared.tape.Reply.TheVariants as reply
use Rattle.ctr_model.specs.declared.state.State.{State}
use Rattle.ctr_redo.specs.States.{State as Stored}
use Rattle.ctr_told.specs.store_Store.{View, LeavesFront}
use Rattle.ctr_meta.specs.Kept.{TablesKept}
use Rattle.ctr_locks.specs.Held.{LocksOfSession, OfSession, SameHeld, locks_key, session_locks}
use Rattle.ctr_locks.specs.Shows.{ShowsKeyLocks}
use Rattle.ctr_told.specs.txn_Held.{run_of}
use Rattle.ctr_versions.proofs.Keys.{known}
use Rattle.ctr_told.specs.kept_Turns.{Start, state_now, telling}
use Rattle.ctr_told.specs.kept_Walk.{Mind}
use Rattle.ctr_told.specs.stops_World.{KeepsWorld}
use Rattle.ctr_told.specs.page_turns_Turns.{RestsBehind}
use Rattle.ctr_session_world.specs.World.{SessionsHeld, names_in, AreInTables, AreInOrder, InWorld}
use Rattle.ctr_session_world.specs.Told.{IsNextOf, IsActTold}
use Rattle.ctr_session_world.proofs.Standing.{refused_state, told_state}

at_once : (n : ℕ) → n ≤ n
at_once n = omega arith

-- no call of the store is a turn that logs nothing
pub rests_here : {D : Type 0} (g : Ghosts D) (v : View D) → LeavesFront g v v → RestsBehind g v v
rests_here g v front = record {
  logs = record { j = 0; waiting = sym (append-nil v.waiting); hardened = refl; now = refl };
  front = front;
  rests = front;
  later = at_once (g.moment_of v.disk);
}

-- and none but one that takes room beside the pages
pub rests_roomy : {D : Type 0} (g : Ghosts D) (v w : View D) → w ≡ record v { meta = w.meta } → LeavesFront g v v → RestsBehind g v w
rests_roomy {D} g v w is front = subst (λ (z : View D). RestsBehind g v z) (sym is) (roomy w.meta)
  where
    roomy : (m : TablesKept) → RestsBehind g v (record v { meta = m })
    roomy m = record {
      logs = record { j = 0; waiting = sym (append-nil v.waiting); hardened = refl; now = refl };
      front = record { front = front.front; long = front.long };
      rests = record { front = front.front; long = front.long };
      later = at_once (g.moment_of v.disk);
    }

-- a World that is kept behind a turn that logs nothing is one with the same sessions
pub world_rests : {D : Type 0} (g : Ghosts D) (c : Start) (opened : D) (a b : View D) (h : SessionsHeld) (w : Mind) → InWorld g c opened a h w → b.now ≡ a.now → KeepsWorld g c opened b w → InWorld g c opened b h w
world_rests g c opened a b h w world pages keeps = record {
  keeps = keeps;
  run_is = world.run_is;
  locks = subst (λ (q : Stored). ShowsKeyLocks (names_in q) h.locks (state_now c w)) (sym pages) world.locks;
  tables = subst (λ (q : Stored). AreInTables q h.locks (state_now c w) w.facts) (sym pages) world.tables;
  in_order = world.in_order;
}

-- a session's locks are as they are
pub same_held : (s : ℕ) (locks : List (ℕ × LocksOfSession)) → OfSession s SameHeld locks locks
same_held s locks = record { here = record { keys = λ e k. refl; uses = λ n. refl; holds = λ n. refl; key_room = λ e k is. is; name_room = λ n is. is }; others = λ r two. refl }

module _ {D : Type 0} (g : Ghosts D) (c : Start) (opened : D) (a b : View D) (h : SessionsHeld) (s : ℕ) (statement : Statement) (made : ℕ) (next : IsNextOf g c opened a b h s statement made) where
  -- a refusal is told, where nothing was logged; the sessions may be held with more room
  pub refused_as : (now : SessionsHeld) → run_of now.txns ≡ run_of h.txns → ShowsKeyLocks (names_in a.now) now.locks (state_now c next.mind) → AreInTables a.now now.locks (state_now c next.mind) next.mind.facts
      → (x : Act) (why : Refusal) → RestsBehind g a b → KeepsWorld g c opened b (telling next.e x (reply.Refused why) next.mind next.mind) → IsActTold next now x (reply.Refused why)
  refused_as now run locks tables x why rested keeps =
      let v = telling next.e x (reply.Refused why) next.mind next.mind in
      let same = sym (told_state g c opened a b h s statement made next x (reply.Refused why) v refl ∙ refused_state (state_now c next.mind) s x (Some statement) why) in
      let pages = sym rested.logs.now in
      record {
        mind = v;
        world = record {
          keeps = keeps;
          run_is = next.world.run_is ∙ sym run;
          locks = subst (λ (q : Stored). ShowsKeyLocks (names_in q) now.locks (state_now c v)) pages (subst (λ (q : State). ShowsKeyLocks (names_in a.now) now.locks q) same locks);
          tables = subst (λ (q : Stored). AreInTables q now.locks (state_now c v) v.facts) pages (subst (λ (q : State). AreInTables a.now now.locks q v.facts) same tables);
          in_order = subst AreInOrder same next.world.in_order;
        };
        tape = refl;
        undo = refl;
        names = λ e there. ap (λ (q : Stored). names_in q e) rested.logs.now;
        others = λ q two. refl;
        counts = refl;
      }

  pub refused_told : (x : Act) (why : Refusal) → RestsBehind g a b → KeepsWorld g c opened b (telling next.e x (reply.Refused why) next.mind next.mind) → IsActTold next h x (reply.Refused why)
  refused_told = refused_as h refl next.world.locks next.world.tables

  -- room for one session leaves each lock in its table
  pub tables_roomy : (now : SessionsHeld) → OfSession s SameHeld h.locks now.locks → AreInTables a.now now.locks (state_now c next.mind) next.mind.facts
  tables_roomy now same r e key u is at = next.world.tables r e key u (known (r == s)
      (λ one. subst (λ q. session_locks q e key h.locks ≡ true) (sym (eqb-true r s one)) (sym (same.here.keys e key) ∙ subst (λ q. session_locks q e key now.locks ≡ true) (eqb-true r s one) is))
      (λ two. sym (ap (locks_key e key) (same.others r two)) ∙ is)) at
