-- The slot of a key that a search has found.
use Rattle.std.proofs.Common.{◌≡◌, ℕ, ℤ, List, Option, Some, Result, Ok, Err, subst}
use Rattle.std.specs.Prelude.{IfOk}
use Rattle.ctr_disk.specs.declared.fault.StoreFault.{StoreFault}
use Rattle.ctr_snap.specs.Seeing.{SnapshotTaken}
use Rattle.ctr_page.specs.declared.rows.Place.{Place}
use Rattle.ctr_area.specs.Areas.{Area}
use Rattle.ctr_wishes.specs.ctr_reading.heap_Finding.{FindsKey}
use Rattle.ctr_wishes.specs.actions_Sites.{Site}
use Rattle.ctr_asking.specs.Causes.{IsNewer, newer_at}

module _ (area : Area) (e : ℕ) (k key : ℤ) (found : Option Place) (same : k ≡ key) (finds : FindsKey area e k found) where
  -- what was found is what was matched
  pub found_so : (o : Option Place) → found ≡ o → FindsKey area e key o
  found_so o is = subst (λ (j : ℤ). FindsKey area e j o) same (subst (λ (o : Option Place). FindsKey area e k o) is finds)

-- the number of the slot that was found is told
pub newer_here : (commits : List ℕ) (site : Site) (snapshot : SnapshotTaken) (e : ℕ) (key : ℤ) (at : Place) (result : Result (Option ℕ) StoreFault) → FindsKey site.area e key (Some at)
    → IfOk result (λ n. n ≡ newer_at commits site snapshot at) → IfOk result (IsNewer commits site snapshot e key)
newer_here commits site snapshot e key at (Ok n) finds is = (Some at, finds, is)
newer_here commits site snapshot e key at (Err _) finds is = tt
