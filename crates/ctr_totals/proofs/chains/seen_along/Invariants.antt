use Rattle.std.proofs.Common.{◌≡◌, ℕ, ℤ, Ok}
use Rattle.std.specs.Prelude.{IsTrue, ⊤}
use Rattle.ctr_base.specs.Base.{IsSoundImage}
use Rattle.ctr_load.specs.Statements.{load_columns}
use Rattle.ctr_store.specs.Store.{LeavesPage}
use Rattle.ctr_area.specs.Chains.{older_bound, Leads}
use Rattle.ctr_area.specs.Images.{is_committed_in}
use Rattle.ctr_area.specs.Sound.{IsKeptFor}
use Rattle.ctr_record_effects.specs.States.{area_in}
use Rattle.ctr_record_effects.specs.Standing.{IsDatabaseState}
use Rattle.ctr_totals.proofs.Seen.{IsOnWay}
use Rattle.ctr_totals.proofs.chains.seen_along.Given as goal

abbrev pub invariant-loop-left : goal.invariant-loop-left
invariant-loop-left g l = record {
  read : LeavesPage {T = ⊤} g.O.Origin.first g.D.Disk l.fn.store l.store (Ok tt);
  way : IsTrue g.D.Disk.tells → IsSoundImage g.O.Origin.first → (e : ℕ) (key : ℤ) → IsDatabaseState l.fn.store.now → ((area_in l.fn.store.now).title e).columns ≡ load_columns
      → Leads older_bound (area_in l.fn.store.now).older (IsKeptFor (area_in l.fn.store.now) e key) l.fn.from → IsOnWay (is_committed_in l.fn.store.now.tables) (area_in l.fn.store.now) e key l.fn.from l.at l.left;
}

abbrev pub decreases-loop-left : goal.decreases-loop-left
decreases-loop-left g l = l.left
