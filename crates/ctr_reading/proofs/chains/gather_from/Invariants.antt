use Rattle.std.proofs.Common.{◌≡◌, ◌<◌}
use Rattle.std.specs.Prelude.{IsTrue}
use Rattle.ctr_base.specs.Base.{IsSoundImage}
use Rattle.ctr_walk.specs.record_effects_States.{area_in}
use Rattle.ctr_walk.proofs.PagesRead.{HasRead}
use Rattle.ctr_reading.specs.Reading.{sight_sees}
use Rattle.ctr_reading.proofs.Walked.{IsWalked}
use Rattle.ctr_reading.proofs.chains.gather_from.Given as goal

abbrev pub invariant-loop-at : goal.invariant-loop-at
invariant-loop-at g l =
    HasRead g.O.Origin.first g.D.Disk ((l.at ≡ l.first) × (l.left ≡ l.most)) l.fn.store l.store
    × (l.at < l.fn.store.now.counted)
    × (IsTrue g.D.Disk.tells → IsSoundImage g.O.Origin.first → IsWalked (sight_sees l.fn.store.now.tables l.sight) (area_in l.fn.store.now) l.first l.most l.at l.left l.fn.rows l.rows)

abbrev pub decreases-loop-at : goal.decreases-loop-at
decreases-loop-at g l = l.left
