use Rattle.std.proofs.Common.{◌≡◌, ◌∙◌, ℕ, true, List, length, get_or, Some, is_some, sym, ap, subst, arith}
use Rattle.ctr_pool.specs.declared.frame.Frame.{Frame}
use Rattle.ctr_pool.specs.Frames.{frame_of, change_of, is_dirty, dirty_count}
use Rattle.ctr_pool.specs.Kept.{FrameList}
use Rattle.ctr_pool.proofs.FrameLaws.{all_dirty, none_of}
use Rattle.ctr_pool.proofs.PlaceLaws.{place_at}
use Rattle.ctr_pool.proofs.PlacedLaws.{present}
use Rattle.ctr_pool.proofs.frames.Frames.clean_from.Goals as goal

pub returns-then-is_none-clause-clean : goal.returns-then-is_none-clause-clean
returns-then-is_none-clause-clean c =
    let fs = c.self.inside.items.items in
    let to : fs ≡ c.args.self.now.frames = ap (λ (v : FrameList). v.frames) c.self.view_is in
    let p = c.entry-page.result.0 in
    let y = c.index.result.now in
    let here : frame_of p c.args.self.now.frames ≡ Some y = ap (frame_of p) (sym to) ∙ present c.self.inside.places.entries fs c.self.invariant.0 p c.entry-page.result.1 y c.entry-page.ensures.place ∙ ap Some (sym c.index.ensures) in
    (ap is_some here, ap change_of here ∙ none_of y.since c.if-is_none.ensures)

pub returns-clause-none : goal.returns-clause-none
returns-clause-none c zero =
    let fs = c.self.inside.items.items in
    let es = c.self.inside.places.entries in
    let to : fs ≡ c.args.self.now.frames = ap (λ (v : FrameList). v.frames) c.self.view_is in
    subst (λ (l : List Frame). dirty_count l ≡ length l) to
    (all_dirty fs (λ k d lt. let r = place_at (get_or fs k d).page k es (0, 0) (c.self.invariant.0.each k d lt) in
    subst (λ (n : ℕ). is_dirty (get_or fs n d) ≡ true) r.2 (c.loop-rank.invariant r.0 d (omega (arith, zero)) (omega (arith, r.1, c.loop-rank-test.false, c.len-rank-end.ensures)))))
