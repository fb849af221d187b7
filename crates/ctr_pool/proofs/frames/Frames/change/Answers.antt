use Rattle.std.proofs.Common.{◌≡◌, ℕ, List, Option, is_some, refl, sym, ap, ◌∙◌, arith}
use Rattle.ctr_pool.specs.declared.frame.Frame.{Frame}
use Rattle.ctr_pool.specs.Frames.{has_page, change_of, since_in, since_then, is_dirty, after_change}
use Rattle.ctr_pool.specs.Kept.{FrameList}
use Rattle.ctr_pool.proofs.FrameLaws.{one_if, Stands, stays_mapped, stands, put_frames, put_count, since_some}
use Rattle.ctr_pool.proofs.PlacedLaws.{apart, placed_set}
use Rattle.ctr_pool.proofs.frames.Frames.change.Goals.{After-since_then-frame}
use Rattle.ctr_pool.proofs.frames.Frames.change.Goals as goal

pub returns-in_default-clause-frames : goal.returns-in_default-clause-frames
returns-in_default-clause-frames c q =
    stays_mapped (after_change c.args.overlay.now c.args.lsn) c.args.page q c.args.self.now.frames c.in_default.ensures.none

pub returns-in_default-clause-count : goal.returns-in_default-clause-count
returns-in_default-clause-count c =
    let missed = c.in_default.ensures.none in
    let z : one_if (is_some (since_in c.args.page c.args.self.now.frames)) ≡ 0 = ap (λ (o : Option Frame). one_if (is_some (change_of o))) missed in
    let y : one_if (has_page c.args.page c.args.self.now.frames) ≡ 0 = ap (λ (o : Option Frame). one_if (is_some o)) missed in
    omega (arith, z, y)

-- the page's frame, with the overlay laid over its body
abbrev laid : After-since_then-frame → Frame
laid c = record { page = c.index_mut-frame.result.now.page; lsn = c.args.lsn; since = c.since_then-frame.result; body = c.lay.new.self }

is_laid : (c : After-since_then-frame) → laid c ≡ after_change c.args.overlay.now c.args.lsn c.index_mut-frame.result.now
is_laid c =
    let x = c.index_mut-frame.result.now in
    ap (λ (s : Option ℕ). record { page = x.page; lsn = c.args.lsn; since = s; body = c.lay.new.self }) c.since_then-frame.ensures ∙ ap (λ (b : List ℕ). record { page = x.page; lsn = c.args.lsn; since = since_then x.since c.args.lsn; body = b }) c.lay.ensures

-- the frames that callers see are those that are kept
shown : (c : After-since_then-frame) → c.self.inside.items.items ≡ c.args.self.now.frames
shown c = ap (λ (v : FrameList). v.frames) c.self.view_is

-- it stands where it was found
there : (c : After-since_then-frame) → Stands c.self.inside.items.items c.in-Some.at c.args.page c.index_mut-frame.result.now
there c =
    stands c.self.inside.items.items c.args.self.now.frames c.in-Some.at c.args.page c.index_mut-frame.result.now (sym (shown c)) (apart c.self.inside.places.entries c.self.inside.items.items c.self.invariant.0) c.in-Some.ensures.there c.index_mut-frame.ensures.value

pub invariant_of-self : goal.invariant_of-self
invariant_of-self c =
    let at = (goal.at.invariant_of-self c).After-since_then-frame in
    let x = c.index_mut-frame.result.now in
    let stands_at = there at in
    let kept = c.self.invariant in
    (placed_set c.self.inside.places.entries c.self.inside.items.items kept.0 c.in-Some.at x (laid at) stands_at.inside (ap (λ (g : Frame). g.page) stands_at.here), kept.1, kept.2)

pub returns-clause-frames : goal.returns-clause-frames
returns-clause-frames c q =
    let at = (goal.at.returns-clause-frames c).After-since_then-frame in
    put_frames (after_change c.args.overlay.now c.args.lsn) c.self.inside.items.items c.args.self.now.frames c.in-Some.at c.args.page c.index_mut-frame.result.now (laid at) (shown at) (apart c.self.inside.places.entries c.self.inside.items.items c.self.invariant.0) (there at) (is_laid at) refl q

pub returns-clause-count : goal.returns-clause-count
returns-clause-count c =
    let at = (goal.at.returns-clause-count c).After-since_then-frame in
    let x = c.index_mut-frame.result.now in
    let n = put_count (after_change c.args.overlay.now c.args.lsn) c.self.inside.items.items c.args.self.now.frames c.in-Some.at c.args.page x (laid at) (shown at) (apart c.self.inside.places.entries c.self.inside.items.items c.self.invariant.0) (there at) (is_laid at) refl in
    let one : one_if (is_dirty (laid at)) ≡ 1 = ap (λ (s : Option ℕ). one_if (is_some s)) c.since_then-frame.ensures ∙ ap one_if (since_some x.since c.args.lsn) in
    let had : one_if (has_page c.args.page c.args.self.now.frames) ≡ 1 = ap (λ (l : List Frame). one_if (has_page c.args.page l)) (sym (shown at)) ∙ ap (λ (o : Option Frame). one_if (is_some o)) (there at).frame in
    omega (arith, n, one, had)
