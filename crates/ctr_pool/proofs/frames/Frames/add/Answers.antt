use Rattle.std.proofs.Common.{◌≡◌, ◌∙◌, ℕ, List, length, cond, eqb, Some, None, sym, ap, subst, arith}
use Rattle.ctr_pool.specs.declared.frame.Frame.{Frame}
use Rattle.ctr_pool.specs.Frames.{frame_of, dirty_count}
use Rattle.ctr_pool.specs.Kept.{FrameList, ArePlaced, place_of}
use Rattle.ctr_pool.proofs.FrameLaws.{frame_push, count_push}
use Rattle.ctr_pool.proofs.PlacedLaws.{unplaced, placed_push}
use Rattle.ctr_pool.proofs.frames.Frames.add.Goals as goal

pub add-requires-clause-new : goal.add-requires-clause-new
add-requires-clause-new c =
    let fs = c.self.inside.items.items in
    let to : fs ≡ c.args.self.now.frames = ap (λ (v : FrameList). v.frames) c.self.view_is in
    let new : Frame = record { page = c.args.page; lsn = c.args.lsn; since = None; body = c.args.body } in
    unplaced c.self.inside.places.entries fs c.self.invariant.0 c.args.page new (ap (frame_of c.args.page) to ∙ c.requires.new)

pub invariant_of-self : goal.invariant_of-self
invariant_of-self c =
    let fs = c.self.inside.items.items in
    let es = c.self.inside.places.entries in
    let to : fs ≡ c.args.self.now.frames = ap (λ (v : FrameList). v.frames) c.self.view_is in
    let new : Frame = record { page = c.args.page; lsn = c.args.lsn; since = None; body = c.args.body } in
    let at : c.len-at.result ≡ length fs = omega (arith, c.len-at.ensures) in
    let kept = c.self.invariant in (
      subst (ArePlaced c.add.new.self.entries) (sym c.push_reserved.ensures.items)
          (placed_push es fs kept.0 new c.add.new.self.entries (ap (frame_of c.args.page) to ∙ c.requires.new) (λ q. c.add.ensures.places q ∙ ap (λ (n : ℕ). cond (eqb c.args.page q) (Some n) (place_of q es)) at)),
      omega (arith, kept.1, c.add.ensures.len, c.push_reserved.ensures.len),
      omega (arith, kept.2, c.add.ensures.len, c.add.ensures.room, c.push_reserved.ensures.capacity),
    )

pub returns-clause-frames : goal.returns-clause-frames
returns-clause-frames c q =
    let fs = c.self.inside.items.items in
    let to : fs ≡ c.args.self.now.frames = ap (λ (v : FrameList). v.frames) c.self.view_is in
    let new : Frame = record { page = c.args.page; lsn = c.args.lsn; since = None; body = c.args.body } in
    ap (frame_of q) c.push_reserved.ensures.items ∙ frame_push fs new (ap (frame_of c.args.page) to ∙ c.requires.new) q
    ∙ ap (λ (l : List Frame). cond (eqb c.args.page q) (Some new) (frame_of q l)) to

pub returns-clause-count : goal.returns-clause-count
returns-clause-count c =
    let fs = c.self.inside.items.items in
    let to : fs ≡ c.args.self.now.frames = ap (λ (v : FrameList). v.frames) c.self.view_is in
    let new : Frame = record { page = c.args.page; lsn = c.args.lsn; since = None; body = c.args.body } in
    let n = count_push fs new in
    omega (arith, n, ap dirty_count c.push_reserved.ensures.items, ap dirty_count to)
