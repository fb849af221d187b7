use Rattle.std.proofs.Common.{sym, subst}
use Rattle.std.specs.List.{AllByRecursion}
use Rattle.ctr_rec.specs.Members.{ItemFits}
use Rattle.ctr_meta.proofs.Fits.{other_items}
use Rattle.ctr_meta.proofs.ItemLaws.{all_out}
use Rattle.ctr_meta.proofs.meta.Meta.take_item.Goals as goal

pub invariant_of-self : goal.invariant_of-self
invariant_of-self c =
    let a = c.self.inside in
    record {
      xids = other_items a.next a.opens.entries a.aborted.entries a.items.items c.take_out.new.items.items c.self.invariant.xids;
      ends = c.self.invariant.ends;
      items = subst (AllByRecursion ItemFits) (sym c.take_out.ensures.items) (all_out ItemFits c.args.wanted a.items.items c.self.invariant.items);
    }
