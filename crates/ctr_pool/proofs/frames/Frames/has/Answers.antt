use Rattle.std.proofs.Common.{◌≡◌, is_some, sym, ap, ◌∙◌}
use Rattle.ctr_pool.specs.Frames.{has_page}
use Rattle.ctr_pool.specs.Kept.{FrameList}
use Rattle.ctr_pool.proofs.FrameLaws.{found_there}
use Rattle.ctr_pool.proofs.PlacedLaws.{apart}
use Rattle.ctr_pool.proofs.frames.Frames.has.Goals as goal

pub returns-in-Some-clause-has : goal.returns-in-Some-clause-has
returns-in-Some-clause-has c =
    let fs = c.self.inside.items.items in
    let to : fs ≡ c.args.self.now.frames = ap (λ (v : FrameList). v.frames) c.self.view_is in
    sym (ap (has_page c.args.page) (sym to) ∙ found_there fs c.args.self.now.frames c.in-Some.at c.args.page (sym to) (apart c.self.inside.places.entries fs c.self.invariant.0) c.in-Some.ensures.there)

pub returns-in-None-clause-has : goal.returns-in-None-clause-has
returns-in-None-clause-has c = sym (ap is_some c.in-None.ensures.none)
