use Rattle.std.proofs.Common.{List, ℕ, refl, sym, ◌∙◌, ap, subst}
use Rattle.ctr_asking.specs.ctr_wishes.actions_Sites.{site_of}
use Rattle.ctr_session_world.specs.paged_Paged.{Run}
use Rattle.ctr_asking.specs.ctr_wishes.paged_Shown.{IsShown}
use Rattle.ctr_locks.specs.Held.{LocksOfSession}
use Rattle.ctr_locks.specs.Shows.{ShowsKeyLocks}
use Rattle.ctr_session_world.specs.kept_Turns.{state_now}
use Rattle.ctr_session_world.proofs.kept_Walking.{keeps_reached}
use Rattle.ctr_session_world.specs.txn_Held.{run_of, txn_of}
use Rattle.ctr_asking.specs.Asking.{AreOfTables}
use Rattle.ctr_session_world.specs.World.{names_in}
use Rattle.ctr_looks.proofs.Looking.{of_tables}
use Rattle.ctr_looks.proofs.laws.a_session_in_a_world_may_look.Goals as goal

pub returns : goal.returns
returns g c = λ run opened v h w world asker txn seat one in_it calm txns_is locks_is stuck_is.
    let site = site_of v.now in
    let state = state_now run w in
    let scene = world.keeps.walks.scene in (
      record {
        low = scene.low;
        state = state;
        txn = txn;
        t = seat.t;
        one = one;
        in_it = ap (txn_of asker.s) txns_is ∙ in_it;
        is_t = seat.is_t;
        calm = calm;
        shown = subst (λ (r : Run). IsShown scene.low site (record { run = r; state = state })) (world.run_is ∙ ap run_of (sym txns_is)) scene.shown;
        kept = (keeps_reached run.lines run.moment run.base run.stuck run.size (g.D.Disk.moment_of v.disk) site w world.keeps.walks).kept;
        sorted = world.in_order;
        stuck = stuck_is;
        locks = subst (λ (l : List (ℕ × LocksOfSession)). ShowsKeyLocks (names_in v.now) l state) (sym locks_is) world.locks;
        tables = subst (λ (l : List (ℕ × LocksOfSession)). AreOfTables site l state) (sym locks_is) (of_tables g.D.Disk run opened v h w world);
      },
      refl,
      refl,
      refl,
    )
