use Rattle.std.proofs.Common.{◌≡◌, ℕ, List, Ok}
use Rattle.std.specs.Prelude.{IsTrue, IfSome, ⊤}
use Rattle.ctr_base.specs.Base.{IsSoundImage}
use Rattle.ctr_load.specs.Statements.{load_columns}
use Rattle.ctr_page.specs.declared.rows.Place.{Place}
use Rattle.ctr_store.specs.Store.{LeavesPage}
use Rattle.ctr_record_effects.specs.States.{area_in}
use Rattle.ctr_record_effects.specs.Standing.{IsDatabaseState}
use Rattle.ctr_actions.specs.Sites.{site_of}
use Rattle.ctr_cursor.specs.Standing.{IsPosition, IsCountedPosition}
use Rattle.ctr_totals.specs.Along.{GoesAlong}
use Rattle.ctr_totals.proofs.Counted.{Rest, IsWithin}
use Rattle.ctr_totals.proofs.counting.count_from.Given as goal

-- pages were read; and with the slots that are left the totals are those of all
abbrev pub invariant-loop-left : goal.invariant-loop-left
invariant-loop-left g l = record {
  read : LeavesPage {T = ⊤} g.O.Origin.first g.D.Disk l.fn.store l.store (Ok tt);
  inside : IfSome l.at (IsCountedPosition l.store.now.counted);
  within : IsWithin l.left l.totals;
  all : IsTrue g.D.Disk.tells → IsSoundImage g.O.Origin.first → (e : ℕ) (places : List Place) → IsDatabaseState l.fn.store.now → ((area_in l.fn.store.now).title e).columns ≡ load_columns
      → GoesAlong (site_of l.fn.store.now) e l.fn.first places → IfSome l.fn.first (λ x. IsPosition x (site_of l.fn.store.now)) → Rest l.fn.store.now e places l.left l.at l.totals;
}

abbrev pub decreases-loop-left : goal.decreases-loop-left
decreases-loop-left g l = l.left
