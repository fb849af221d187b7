use Rattle.std.proofs.Common.{◌≡◌, true, false, is_some, Some, None, sym, ap, ◌∙◌}
use Rattle.ctr_pool.specs.declared.frame.Frame.{Frame}
use Rattle.ctr_pool.specs.Frames.{frame_of}
use Rattle.ctr_pool.specs.Kept.{FrameList}
use Rattle.ctr_pool.proofs.FrameLaws.{frame_is}
use Rattle.ctr_pool.proofs.PlacedLaws.{apart}
use Rattle.ctr_pool.proofs.frames.Frames.body.Goals as goal

pub returns-in-Some-clause-shown : goal.returns-in-Some-clause-shown
returns-in-Some-clause-shown c f is =
    let fs = c.self.inside.items.items in
    let to : fs ≡ c.args.self.now.frames = ap (λ (v : FrameList). v.frames) c.self.view_is in
    c.as_slice.ensures.bytes
    ∙ ap (λ (g : Frame). g.body) (frame_is fs c.args.self.now.frames c.in-Some.at c.args.page c.index.result.now f (sym to) (apart c.self.inside.places.entries fs c.self.invariant.0) c.in-Some.ensures.there c.index.ensures (ap (frame_of c.args.page) to ∙ is))

pub returns-in-None-clause-shown : goal.returns-in-None-clause-shown
returns-in-None-clause-shown c f is = let no : None ≡ Some f = sym c.in-None.ensures.none ∙ is in absurd cc

pub returns-in-None-clause-whole : goal.returns-in-None-clause-whole
returns-in-None-clause-whole c has = let no : false ≡ true = sym (ap is_some c.in-None.ensures.none) ∙ has in absurd cc
