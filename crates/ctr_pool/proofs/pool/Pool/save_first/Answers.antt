use Rattle.std.proofs.Common.{◌≡◌, ◌∙◌, ℕ, cond, eqb, Option, None, List, ap, sym, arith}
use Rattle.std.specs.Prelude.{is_some}
use Rattle.ctr_pool.specs.declared.frame.Frame.{Frame}
use Rattle.ctr_pool.specs.Frames.{frame_of, change_of, since_in, dirty_count}
use Rattle.ctr_pool.specs.Over.{Pooled}
use Rattle.ctr_pool.proofs.FrameLaws.{since_saved, count_most}
use Rattle.ctr_pool.proofs.pool.Pool.save_first.Goals as goal

pub returns-clause-saves : goal.returns-clause-saves
returns-clause-saves g c =
    let a = c.self.inside in
    let fs = a.frames.frames in
    let now = c.args.self.now.frames in
    let to : fs ≡ now = ap (λ (v : Pooled). v.frames) c.self.view_is in
    let p = c.in-Some.page in
    let s = c.in-Some.field-0-1 in
    let ages = c.self.invariant.ages_are in
    let settled = c.settle.ensures.count in
    let one : ◌≡◌ {A = ℕ} (cond (is_some (since_in p fs)) 1 0) 1 = ap (λ (o : Option ℕ). cond (is_some o) 1 0) (sym (ages p) ∙ c.in-Some.ensures.some) in
    let was = count_most fs in
    let now_most = count_most c.settle.new.self.frames in
    record {
      none = λ no. absurd cc;
      all = λ no. absurd cc;
      most = omega (arith, c.settle.ensures.len, ap (λ (v : Pooled). v.most) c.self.view_is);
      more = λ yes. omega (arith, one, settled, was, now_most, c.settle.ensures.len, ap (λ (v : Pooled). v.most) c.self.view_is, ap (λ (v : Pooled). dirty_count v.frames) c.self.view_is);
      one = λ yes. (
        p,
        s,
        record {
          some = ap (since_in p) (sym to) ∙ sym (ages p) ∙ c.in-Some.ensures.some;
          least = λ q t is. c.in-Some.ensures.least q t (ages q ∙ ap (since_in q) to ∙ is);
        },
        (λ q. ap change_of (c.settle.ensures.frames q) ∙ since_saved (eqb p q) (frame_of q fs) ∙ ap (λ (l : List Frame). cond (eqb p q) None (since_in q l)) to),
      );
    }
