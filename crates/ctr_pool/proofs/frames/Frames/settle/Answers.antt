use Rattle.std.proofs.Common.{◌≡◌, Option, is_some, refl, sym, ap, arith}
use Rattle.ctr_pool.specs.declared.frame.Frame.{Frame}
use Rattle.ctr_pool.specs.Frames.{change_of, since_in, after_save}
use Rattle.ctr_pool.specs.Kept.{FrameList}
use Rattle.ctr_pool.proofs.FrameLaws.{one_if, Stands, stays_mapped, stands, put_frames, put_count}
use Rattle.ctr_pool.proofs.PlacedLaws.{apart, placed_set}
use Rattle.ctr_pool.proofs.frames.Frames.settle.Goals.{After-index_mut}
use Rattle.ctr_pool.proofs.frames.Frames.settle.Goals as goal

pub returns-in_default-clause-frames : goal.returns-in_default-clause-frames
returns-in_default-clause-frames c q = stays_mapped after_save c.args.page q c.args.self.now.frames c.in_default.ensures.none

pub returns-in_default-clause-count : goal.returns-in_default-clause-count
returns-in_default-clause-count c =
    let z : one_if (is_some (since_in c.args.page c.args.self.now.frames)) ≡ 0 = ap (λ (o : Option Frame). one_if (is_some (change_of o))) c.in_default.ensures.none in
    omega (arith, z)

-- the frames that callers see are those that are kept
shown : (c : After-index_mut) → c.self.inside.items.items ≡ c.args.self.now.frames
shown c = ap (λ (v : FrameList). v.frames) c.self.view_is

-- the page's frame stands where it was found
there : (c : After-index_mut) → Stands c.self.inside.items.items c.in-Some.at c.args.page c.index_mut.result.now
there c =
    stands c.self.inside.items.items c.args.self.now.frames c.in-Some.at c.args.page c.index_mut.result.now (sym (shown c)) (apart c.self.inside.places.entries c.self.inside.items.items c.self.invariant.0) c.in-Some.ensures.there c.index_mut.ensures.value

pub invariant_of-self : goal.invariant_of-self
invariant_of-self c =
    let at = (goal.at.invariant_of-self c).After-index_mut in
    let x = c.index_mut.result.now in
    let stands_at = there at in
    let kept = c.self.invariant in
    (placed_set c.self.inside.places.entries c.self.inside.items.items kept.0 c.in-Some.at x (after_save c.index_mut.result.now) stands_at.inside (ap (λ (g : Frame). g.page) stands_at.here), kept.1, kept.2)

pub returns-clause-frames : goal.returns-clause-frames
returns-clause-frames c q =
    let at = (goal.at.returns-clause-frames c).After-index_mut in
    put_frames after_save c.self.inside.items.items c.args.self.now.frames c.in-Some.at c.args.page c.index_mut.result.now (after_save c.index_mut.result.now) (shown at) (apart c.self.inside.places.entries c.self.inside.items.items c.self.invariant.0) (there at) refl refl q

pub returns-clause-count : goal.returns-clause-count
returns-clause-count c =
    let at = (goal.at.returns-clause-count c).After-index_mut in
    let n = put_count after_save c.self.inside.items.items c.args.self.now.frames c.in-Some.at c.args.page c.index_mut.result.now (after_save c.index_mut.result.now) (shown at) (apart c.self.inside.places.entries c.self.inside.items.items c.self.invariant.0) (there at) refl refl in
    omega (arith, n)
