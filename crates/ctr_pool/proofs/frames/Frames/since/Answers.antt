use Rattle.std.proofs.Common.{◌≡◌, sym, ap, ◌∙◌}
use Rattle.ctr_pool.specs.Frames.{change_of, since_in}
use Rattle.ctr_pool.specs.Kept.{FrameList}
use Rattle.ctr_pool.proofs.FrameLaws.{stands}
use Rattle.ctr_pool.proofs.PlacedLaws.{apart}
use Rattle.ctr_pool.proofs.frames.Frames.since.Goals as goal

pub returns-in-Some : goal.returns-in-Some
returns-in-Some c =
    let fs = c.self.inside.items.items in
    let to : fs ≡ c.args.self.now.frames = ap (λ (v : FrameList). v.frames) c.self.view_is in
    let x = c.index.result.now in
    let at_is = stands fs c.args.self.now.frames c.in-Some.at c.args.page x (sym to) (apart c.self.inside.places.entries fs c.self.invariant.0) c.in-Some.ensures.there c.index.ensures in
    sym (ap (since_in c.args.page) (sym to) ∙ ap change_of at_is.frame)

pub returns-in-None : goal.returns-in-None
returns-in-None c = sym (ap change_of c.in-None.ensures.none)
