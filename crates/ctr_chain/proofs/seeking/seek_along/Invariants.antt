use Rattle.std.proofs.Common.{◌≡◌}
use Rattle.std.specs.Prelude.{IsTrue}
use Rattle.ctr_pvs.specs.base_Base.{IsSoundImage}
use Rattle.ctr_pvs.specs.area_Reading.{area_of}
use Rattle.ctr_pvs.specs.area_Checked.{kinds_at}
use Rattle.ctr_pvs.specs.record_effects_States.{pages_in}
use Rattle.ctr_pvs.proofs.walk_PagesRead.{HasRead}
use Rattle.ctr_pvs.specs.walk_Tables.{kinds_said}
use Rattle.ctr_chain.specs.Seeing.{sought_by}
use Rattle.ctr_chain.specs.Seeking.{EntriesOf, sought_along}
use Rattle.ctr_chain.proofs.seeking.seek_along.Given as goal

abbrev pub invariant-loop-at : goal.invariant-loop-at
invariant-loop-at g l =
    let r : EntriesOf = record { counted = l.counted; pages = pages_in l.fn.store.now; entry = l.table.entry } in
    HasRead g.O.Origin.first g.D.Disk ((l.at ≡ l.fn.from) × (l.left ≡ l.most)) l.fn.store l.store
    × (IsTrue g.D.Disk.tells → IsSoundImage g.O.Origin.first → kinds_said l.table ≡ kinds_at (area_of r.pages) r.entry
    → sought_along (sought_by l.fn.store.meta.tables l.sought) r l.most l.home l.fn.from ≡ sought_along (sought_by l.fn.store.meta.tables l.sought) r l.left l.last l.at)

abbrev pub decreases-loop-at : goal.decreases-loop-at
decreases-loop-at g l = l.left
