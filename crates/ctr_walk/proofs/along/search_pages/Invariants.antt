use Rattle.std.proofs.Common.{◌≡◌, ◌<◌, Option, Result}
use Rattle.std.specs.Prelude.{IsTrue}
use Rattle.ctr_store.specs.base_Base.{IsSoundImage}
use Rattle.ctr_record_effects.specs.page_Place.{Place}
use Rattle.ctr_record_effects.specs.page_BadChain.{BadChain}
use Rattle.ctr_record_effects.specs.States.{pages_in}
use Rattle.ctr_walk.specs.Along.{EndsAlong}
use Rattle.ctr_walk.proofs.PagesRead.{HasRead}
use Rattle.ctr_walk.proofs.along.search_pages.Given as goal

abbrev pub invariant-loop-at : goal.invariant-loop-at
invariant-loop-at g l =
    HasRead g.O.Origin.first g.D.Disk ((l.at ≡ l.first) × (l.left ≡ l.most)) l.fn.store l.store
    × (l.at < l.counted)
    × (IsTrue g.D.Disk.tells → IsSoundImage g.O.Origin.first → (r : Result (Option Place) BadChain)
    → EndsAlong (record { chain = l.chain; counted = l.counted; ends = g.S.PageSought.ends l.sought l.kinds l.counted }) (pages_in l.fn.store.now) l.left l.last l.at r
    → EndsAlong (record { chain = l.chain; counted = l.counted; ends = g.S.PageSought.ends l.sought l.kinds l.counted }) (pages_in l.fn.store.now) l.most 0 l.first r)

abbrev pub decreases-loop-at : goal.decreases-loop-at
decreases-loop-at g l = l.left
