use Rattle.std.proofs.Common.{◌≡◌, Some, None, sym, ap, ◌∙◌}
use Rattle.ctr_pool.specs.declared.frame.Frame.{Frame}
use Rattle.ctr_pool.specs.Frames.{frame_of}
use Rattle.ctr_pool.specs.Kept.{FrameList}
use Rattle.ctr_pool.proofs.FrameLaws.{frame_is}
use Rattle.ctr_pool.proofs.PlacedLaws.{apart}
use Rattle.ctr_pool.proofs.frames.Frames.lsn.Goals as goal

pub returns-in-Some : goal.returns-in-Some
returns-in-Some c f is =
    let fs = c.self.inside.items.items in
    let to : fs ≡ c.args.self.now.frames = ap (λ (v : FrameList). v.frames) c.self.view_is in
    ap (λ (g : Frame). g.lsn) (frame_is fs c.args.self.now.frames c.in-Some.at c.args.page c.index.result.now f (sym to) (apart c.self.inside.places.entries fs c.self.invariant.0) c.in-Some.ensures.there c.index.ensures (ap (frame_of c.args.page) to ∙ is))

pub returns-in-None : goal.returns-in-None
returns-in-None c f is = let no : None ≡ Some f = sym c.in-None.ensures.none ∙ is in absurd cc
