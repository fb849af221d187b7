use Rattle.std.proofs.Common.{◌≡◌, ◌∙◌, ◌<◌, ◌-◌, ℕ, List, length, get_or, cond, eqb, Option, Some, None, is_some, sym, ap, arith}
use Rattle.std.specs.List.{swap_remove}
use Rattle.std.proofs.lemmas.List.{get_or_default}
use Rattle.ctr_pool.specs.declared.frame.Frame.{Frame}
use Rattle.ctr_pool.specs.Frames.{frame_of, has_page, change_of, since_in, is_dirty, dirty_count}
use Rattle.ctr_pool.specs.Kept.{FrameList, ArePlaced, place_of}
use Rattle.ctr_pool.proofs.FrameLaws.{one_if, count_out}
use Rattle.ctr_pool.proofs.PlacedLaws.{HasMoved, placed_here, present, none_moves, one_moves, out_here, out_frames}
use Rattle.ctr_pool.proofs.frames.Frames.remove.Goals.{Then-at-len, After-change}
use Rattle.ctr_pool.proofs.frames.Frames.remove.Goals as goal

-- What a frame that goes leaves: the frames that are kept, which callers see, without the one that stood at its page's place.
module _ (es : List (ℕ × ℕ)) (fs now left : List Frame) (placed : ArePlaced es fs) (to : fs ≡ now) (p at : ℕ) (x : Frame) (is_at : place_of p es ≡ Some at) (items : left ≡ swap_remove fs at x) (clean : since_in p now ≡ None) where
  gone : frame_of p now ≡ Some (get_or fs at x)
  gone = ap (frame_of p) (sym to) ∙ present es fs placed p at x is_at

  frames_left : (new : List (ℕ × ℕ)) → HasMoved es fs placed p at x is_at new → (q : ℕ) → frame_of q left ≡ cond (eqb p q) None (frame_of q now)
  frames_left new moved q = ap (frame_of q) items ∙ out_frames es new fs placed p at x is_at moved q ∙ ap (λ (l : List Frame). cond (eqb p q) None (frame_of q l)) to

  count_left : dirty_count left ≡ dirty_count now
  count_left =
      let n = count_out fs at x (placed.inside p at is_at) in
      let z : one_if (is_dirty (get_or fs at x)) ≡ 0 = ap (λ (o : Option ℕ). one_if (is_some o)) (ap change_of (sym gone) ∙ clean) in
      omega (arith, n, z, ap dirty_count items, ap dirty_count to)

  one_there : one_if (has_page p now) ≡ 1
  one_there = ap (λ (o : Option Frame). one_if (is_some o)) gone

shown_last : (c : Then-at-len) → c.self.inside.items.items ≡ c.args.self.now.frames
shown_last c = ap (λ (v : FrameList). v.frames) c.self.view_is

place_last : (c : Then-at-len) → place_of c.args.page c.self.inside.places.entries ≡ Some c.in-Some.at
place_last c =
    placed_here c.self.inside.places.entries c.self.inside.items.items c.self.invariant.0 c.args.self.now.frames c.args.page c.in-Some.at c.swap_remove.result (sym (shown_last c)) c.in-Some.ensures.there

pub returns-then-at-len-clause-frames : goal.returns-then-at-len-clause-frames
returns-then-at-len-clause-frames c q =
    let es = c.self.inside.places.entries in
    let fs = c.self.inside.items.items in
    let x = c.swap_remove.result in
    let end : length fs - 1 ≡ c.in-Some.at = omega (arith, c.if-at-len.true, c.len.ensures, c.swap_remove.ensures.len) in
    frames_left es fs c.args.self.now.frames c.swap_remove.new.self.items c.self.invariant.0 (shown_last c) c.args.page c.in-Some.at x (place_last c) c.swap_remove.ensures.items c.requires c.remove.new.self.entries (none_moves es fs c.self.invariant.0 c.args.page c.in-Some.at x (place_last c) c.remove.new.self.entries end c.remove.ensures.places) q

pub returns-then-at-len-clause-count : goal.returns-then-at-len-clause-count
returns-then-at-len-clause-count c =
    count_left c.self.inside.places.entries c.self.inside.items.items c.args.self.now.frames c.swap_remove.new.self.items c.self.invariant.0 (shown_last c) c.args.page c.in-Some.at c.swap_remove.result (place_last c) c.swap_remove.ensures.items c.requires

pub returns-then-at-len-clause-len : goal.returns-then-at-len-clause-len
returns-then-at-len-clause-len c =
    let one = one_there c.self.inside.places.entries c.self.inside.items.items c.args.self.now.frames c.swap_remove.new.self.items c.self.invariant.0 (shown_last c) c.args.page c.in-Some.at c.swap_remove.result (place_last c) c.swap_remove.ensures.items c.requires in
    omega (arith, one, c.swap_remove.ensures.len, ap length (shown_last c))

shown : (c : After-change) → c.self.inside.items.items ≡ c.args.self.now.frames
shown c = ap (λ (v : FrameList). v.frames) c.self.view_is

place : (c : After-change) → place_of c.args.page c.self.inside.places.entries ≡ Some c.in-Some.at
place c =
    placed_here c.self.inside.places.entries c.self.inside.items.items c.self.invariant.0 c.args.self.now.frames c.args.page c.in-Some.at c.swap_remove.result (sym (shown c)) c.in-Some.ensures.there

pub returns-clause-frames : goal.returns-clause-frames
returns-clause-frames c q =
    let es = c.self.inside.places.entries in
    let fs = c.self.inside.items.items in
    let x = c.swap_remove.result in
    let at = c.in-Some.at in
    let y = c.index.result.now in
    let inside = c.in-Some.ensures.there in
    let lt : at < length fs - 1 = omega (arith, c.if-at-len.false, c.len.ensures, c.swap_remove.ensures.len, inside.0, ap length (shown c)) in
    let out : y ≡ get_or fs (length fs - 1) x = c.index.ensures ∙ ap (λ (l : List Frame). get_or l at y) c.swap_remove.ensures.items ∙ out_here es fs c.self.invariant.0 c.args.page at x (place c) y lt ∙ get_or_default fs (length fs - 1) y x (omega (arith, lt)) in
    frames_left es fs c.args.self.now.frames c.swap_remove.new.self.items c.self.invariant.0 (shown c) c.args.page at x (place c) c.swap_remove.ensures.items c.requires c.change.new.self.entries
    (one_moves es fs c.self.invariant.0 c.args.page at x (place c) c.change.new.self.entries y.page lt (ap (λ (f : Frame). f.page) out) (λ k. c.change.ensures.places k ∙ ap (cond (eqb y.page k) (Some at)) (c.remove.ensures.places k))) q

pub returns-clause-count : goal.returns-clause-count
returns-clause-count c =
    count_left c.self.inside.places.entries c.self.inside.items.items c.args.self.now.frames c.swap_remove.new.self.items c.self.invariant.0 (shown c) c.args.page c.in-Some.at c.swap_remove.result (place c) c.swap_remove.ensures.items c.requires

pub returns-clause-len : goal.returns-clause-len
returns-clause-len c =
    let one = one_there c.self.inside.places.entries c.self.inside.items.items c.args.self.now.frames c.swap_remove.new.self.items c.self.invariant.0 (shown c) c.args.page c.in-Some.at c.swap_remove.result (place c) c.swap_remove.ensures.items c.requires in
    omega (arith, one, c.swap_remove.ensures.len, ap length (shown c))
