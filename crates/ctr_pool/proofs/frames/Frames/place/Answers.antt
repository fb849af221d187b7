use Rattle.std.proofs.Common.{ap}
use Rattle.ctr_pool.specs.Kept.{FrameList}
use Rattle.ctr_pool.proofs.PlacedLaws.{absent_if}
use Rattle.ctr_pool.proofs.frames.Frames.place.Goals as goal

pub returns-clause-none : goal.returns-clause-none
returns-clause-none c =
    absent_if c.self.inside.places.entries c.self.inside.items.items c.self.invariant.0 c.args.self.now.frames c.args.page c.of.result (ap (λ (v : FrameList). v.frames) c.self.view_is) c.of.ensures
