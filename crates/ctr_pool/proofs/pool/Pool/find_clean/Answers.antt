use Rattle.std.proofs.Common.{◌≡◌, length, refl, ap, arith}
use Rattle.ctr_pool.specs.Frames.{dirty_count}
use Rattle.ctr_pool.specs.Over.{Pooled}
use Rattle.ctr_pool.proofs.FrameLaws.{count_less}
use Rattle.ctr_pool.proofs.pool.Pool.find_clean.Goals as goal

pub returns-in-Some-clause-saves : goal.returns-in-Some-clause-saves
returns-in-Some-clause-saves g c =
    let fs = c.self.inside.frames.frames in
    let to : fs ≡ c.args.self.now.frames = ap (λ (v : Pooled). v.frames) c.self.view_is in
    let clean = c.in-Some.ensures.clean in
    let n = count_less c.in-Some.page fs clean.0 clean.1 in
    record {
      kept = λ some q. refl;
      oldest = λ none. absurd (omega (arith, none, n, ap length to, ap dirty_count to, c.requires.full));
    }
