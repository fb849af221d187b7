use Rattle.std.proofs.Common.{ℕ, List, sym, subst, arith}
use Rattle.ctr_meta.specs.Kept.{XidsFit}
use Rattle.ctr_meta.proofs.Fits.{set_open_fits}
use Rattle.ctr_meta.proofs.meta.Meta.lower_open.Goals as goal

pub invariant_of-self : goal.invariant_of-self
invariant_of-self c =
    let a = c.self.inside in
    record {
      xids = subst (λ (l : List (ℕ × ℕ)). XidsFit (record { next = a.next; opens = l; aborted = a.aborted.entries; items = a.items.items })) (sym c.set.ensures.entries) (set_open_fits a.next a.opens.entries a.aborted.entries a.items.items a.items.items c.self.invariant.xids c.args.x c.saturating_sub.result);
      ends = omega (arith, c.set.ensures.len, c.self.invariant.ends);
      items = c.self.invariant.items;
    }
