-- Sessions in a World behind a turn of undo.
use Rattle.std.proofs.Common.{◌≡◌, ℕ, ◌==◌, false, List, [], ◌∷◌, ◌++◌, None, refl, sym, ◌∙◌, ap, subst, arith}
use Rattle.std.proofs.lemmas.Bool.{ne_eqb}
use Rattle.std.proofs.lemmas.List.{append-nil}
use Rattle.ctr_disk.specs.declared.disk.Disk.{Ghosts}
use Rattle.ctr_types.specs.declared.tape.Act.TheVariants as act
use Rattle.ctr_types.specs.declared.tape.Entry.{Entry}
use Rattle.ctr_types.specs.declared.tape.Reply.TheVariants as reply
use Rattle.ctr_model.specs.declared.state.State.{State}
use Rattle.ctr_model.specs.declared.tape.Point.{Point}
use Rattle.ctr_model.specs.Laws.{IsSoundState, SnapshotsStay}
use Rattle.ctr_model.specs.Reply.{next_from, without_name}
use Rattle.ctr_model.specs.State.{transaction_of}
use Rattle.ctr_model.specs.Tape.{passed, progress_of}
use Rattle.ctr_legal.proofs.Reached.{final_push}
use Rattle.ctr_actions.specs.Sites.{site_of}
use Rattle.ctr_locks.specs.Shows.{ShowsKeyLocks}
use Rattle.ctr_store.specs.Store.{View}
use Rattle.ctr_undo.specs.kept_Walk.{Mind}
use Rattle.ctr_undo.specs.kept_Turns.{Start, point_now, start_point, state_now, release_entry}
use Rattle.ctr_undo.specs.stops_World.{KeepsWorld}
use Rattle.ctr_pass.specs.txn_Held.{IsOneOfEight}
use Rattle.ctr_undo.specs.Left.{UndoLeft}
use Rattle.ctr_undo.specs.Turns.{Undoes}
use Rattle.ctr_undo.specs.Keeping.{list_of, undone_to, name_undone, released_to}
use Rattle.ctr_pass.specs.session_world_World.{SessionsHeld, AreInOrder, AreInTables, InWorld, names_in}
use Rattle.ctr_pass.specs.exec_Runner.{Runner}
use Rattle.ctr_pass.specs.exec_sessions_Sessions.{Sessions}
use Rattle.ctr_pass.specs.exec_Runners.{runner_at}
use Rattle.ctr_pass.specs.exec_Sessions.{IsReleased, IsSeatedAt, ShowsSessions, sessions_held_by}
use Rattle.ctr_pass.proofs.exec_Shown.{RowsStay, seat_still}
use Rattle.ctr_world.proofs.Titles.{recovery_is_outside, locks_still, tables_still}

module _ {D : Type 0} (g : Ghosts D) (c : Start) (opened : D) (a b : View D) (h : Sessions) (w : Mind) (v : UndoLeft) (before : ShowsSessions g c opened a h w) (does : Undoes (list_of w) v a.now b.now)
    (sound : IsSoundState (state_now c w)) (rows : RowsStay) (views : SnapshotsStay) where
  locks_now : ShowsKeyLocks (names_in b.now) h.locks (state_now c w)
  locks_now = locks_still c (g.moment_of a.disk) a.now w before.world.keeps.walks v b.now does.item does.acts h.locks before.world.locks

  tables_now : AreInTables b.now h.locks (state_now c w) w.facts
  tables_now = tables_still c (g.moment_of a.disk) a.now w before.world.keeps.walks v b.now does.item does.goes does.acts h.locks before.world.tables

  -- ---- nothing is told

  pub shows_kept : KeepsWorld g c opened b (undone_to v w) → ShowsSessions g c opened b h (undone_to v w)
  shows_kept keeps = record {
    world = record { keeps = keeps; run_is = before.world.run_is; locks = locks_now; tables = tables_now; in_order = before.world.in_order };
    lines = before.lines;
    tape = before.tape;
    stuck = before.stuck;
    each = λ q one. seat_still c q w (undone_to v w) [] (sym (append-nil w.tape)) tt sound refl refl rows views (runner_at q h.runners.items) refl (before.each q one);
  }

  -- ---- a name is released

  module _ (moment : ℕ) where
    abbrev name : List ℕ
    name = name_undone does.item (site_of a.now)

    abbrev e : Entry
    e = release_entry name moment

    abbrev u : Mind
    u = released_to v name moment w

    point_is : point_now c u ≡ passed c.lines (point_now c w) e
    point_is = final_push c.lines (start_point c) w.tape e

    -- no session has another transaction by that
    state_is : state_now c u ≡ record (state_now c w) { stuck = without_name name (state_now c w).stuck }
    state_is = ap (λ (p : Point). p.state) point_is
        ∙ ap (λ o. next_from (state_now c w) 0 o (act.Release name) None reply.Released) (recovery_is_outside c (g.moment_of a.disk) a.now w before.world.keeps.walks h.txns before.world.run_is)

    away : (q : ℕ) → IsOneOfEight q → (q == 0) ≡ false
    away q one = ne_eqb q 0 (λ is. let low = one.from in omega (arith, low, is))

    each : (q : ℕ) → IsOneOfEight q → IsSeatedAt c u q (runner_at q h.runners.items)
    each q one = seat_still c q w u (e ∷ []) refl (away q one, tt) sound refl (ap (λ (z : State). transaction_of z q) state_is) rows views (runner_at q h.runners.items) (ap (λ (p : Point). progress_of p q) point_is) (before.each q one)

    world_now : KeepsWorld g c opened b u → InWorld g c opened b (sessions_held_by h) u
    world_now keeps = record {
      keeps = keeps;
      run_is = before.world.run_is;
      locks = subst (λ (z : State). ShowsKeyLocks (names_in b.now) h.locks z) (sym state_is) locks_now;
      tables = subst (λ (z : State). AreInTables b.now h.locks z w.facts) (sym state_is) tables_now;
      in_order = subst AreInOrder (sym state_is) before.world.in_order;
    }

    pub shows_released : (now : Sessions) → IsReleased name moment h now → KeepsWorld g c opened b u → ShowsSessions g c opened b now u
    shows_released now released keeps = record {
      world = subst (λ (z : SessionsHeld). InWorld g c opened b z u) (sym (ap sessions_held_by released.same)) (world_now keeps);
      lines = ap (λ (z : Sessions). z.script.lines) released.same ∙ before.lines;
      tape = released.tape ∙ ap (λ l. l ++ e ∷ []) before.tape;
      stuck = released.stuck ∙ ap (without_name name) before.stuck ∙ sym (ap (λ (z : State). z.stuck) state_is);
      each = λ q one. subst (λ (rs : List Runner). IsSeatedAt c u q (runner_at q rs)) (sym (ap (λ (z : Sessions). z.runners.items) released.same)) (each q one);
    }
