use Rattle.std.proofs.Common.{◌≡◌, ◌<◌, refl, ap, rules, arith}
use Rattle.ctr_pool.specs.Frames.{dirty_count}
use Rattle.ctr_pool.specs.Over.{Pooled}
use Rattle.ctr_pool.proofs.FrameLaws.{count_most}
use Rattle.ctr_pool.proofs.pool.Pool.make_room.Goals as goal

pub returns-then-not-is_full-clause-saves : goal.returns-then-not-is_full-clause-saves
returns-then-not-is_full-clause-saves g c =
    let fs = c.self.inside.frames.frames in
    let to : fs ≡ c.args.self.now.frames = ap (λ (v : Pooled). v.frames) c.self.view_is in
    let n = count_most fs in
    let some : 0 < c.self.inside.frames.spare = search rules in
    record {
      kept = λ some q. refl;
      oldest = λ none. absurd (omega (arith, none, n, ap dirty_count to, ap (λ (v : Pooled). v.most) c.self.view_is, some));
    }
