use Rattle.std.proofs.Common.{◌≡◌, ◌∙◌, true, None, ap, sym, arith}
use Rattle.ctr_pool.specs.Frames.{has_page, since_in}
use Rattle.ctr_pool.specs.Over.{Pooled}
use Rattle.ctr_pool.proofs.FrameLaws.{count_less, none_of}
use Rattle.ctr_pool.proofs.pool.Pool.change.Goals as goal

pub add-requires-clause-room : goal.add-requires-clause-room
add-requires-clause-room c =
    let fs = c.self.inside.frames.frames in
    let to : fs ≡ c.args.self.now.frames = ap (λ (v : Pooled). v.frames) c.self.view_is in
    let there : has_page c.args.page fs ≡ true = ap (has_page c.args.page) to ∙ c.requires.there in
    let clean : since_in c.args.page fs ≡ None = sym c.since.ensures ∙ none_of c.since.result c.if-new.ensures in
    let n = count_less c.args.page fs there clean in
    omega (arith, n, c.self.invariant.count, c.self.invariant.ages_room)
