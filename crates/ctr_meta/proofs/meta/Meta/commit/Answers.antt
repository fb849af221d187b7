use Rattle.std.proofs.Common.{ℕ, not, List, sym, subst, arith}
use Rattle.std.specs.List.{AllByRecursion}
use Rattle.ctr_rec.specs.Members.{ItemFits}
use Rattle.ctr_meta.specs.Items.{is_schema_by}
use Rattle.ctr_meta.specs.Kept.{XidsFit}
use Rattle.ctr_meta.proofs.Fits.{ended_fits}
use Rattle.ctr_meta.proofs.ItemLaws.{all_filter}
use Rattle.ctr_meta.proofs.meta.Meta.commit.Goals as goal

pub invariant_of-self : goal.invariant_of-self
invariant_of-self c =
    let a = c.self.inside in
    record {
      xids = subst (λ (l : List (ℕ × ℕ)). XidsFit (record { next = a.next; opens = l; aborted = a.aborted.entries; items = c.settle.new.items.items })) (sym c.remove.ensures.entries) (ended_fits a.next a.opens.entries a.aborted.entries a.items.items c.settle.new.items.items c.self.invariant.xids c.args.x);
      ends = omega (arith, c.remove.ensures.len, c.self.invariant.ends);
      items = subst (AllByRecursion ItemFits) (sym c.settle.ensures.items) (all_filter ItemFits (λ i. not (is_schema_by c.args.x i)) a.items.items c.self.invariant.items);
    }
