use Rattle.std.proofs.Common.{ℕ, List, sym, subst, arith}
use Rattle.ctr_meta.specs.Kept.{XidsFit}
use Rattle.ctr_meta.proofs.Fits.{forgotten_fits}
use Rattle.ctr_meta.proofs.meta.Meta.forget.Goals as goal

pub invariant_of-self : goal.invariant_of-self
invariant_of-self c =
    let a = c.self.inside in
    record {
      xids = subst (λ (l : List (ℕ × ℕ)). XidsFit (record { next = a.next; opens = a.opens.entries; aborted = l; items = a.items.items })) (sym c.remove.ensures.entries) (forgotten_fits a.next a.opens.entries a.aborted.entries a.items.items a.items.items c.self.invariant.xids c.args.x);
      ends = omega (arith, c.remove.ensures.spare, c.self.invariant.ends);
      items = c.self.invariant.items;
    }
