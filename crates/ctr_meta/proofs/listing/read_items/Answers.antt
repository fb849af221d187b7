use Rattle.std.proofs.Common.{◌++◌, ◌∷◌, [], List, sym, ap, ◌∙◌, arith}
use Rattle.ctr_rec.specs.declared.record.SlogItem.{SlogItem}
use Rattle.ctr_rec.specs.Members.{items_from}
use Rattle.ctr_meta.proofs.ListingLaws.{no_items, item_there, item_fits, items_more}
use Rattle.ctr_meta.proofs.listing.read_items.Goals as goal

pub loop-i-init : goal.loop-i-init
loop-i-init c = record {
  read = c.requires.empty ∙ sym (no_items c.args.at c.args.bytes.now);
  len = omega arith;
  capacity = omega arith;
}

pub read_item-requires-clause-fits : goal.read_item-requires-clause-fits
unfolding item_there
read_item-requires-clause-fits c = item_fits c.args.at c.loop-i.i c.args.count c.args.bytes.now c.loop-i-test.true c.requires.fits

pub loop-i-preserved : goal.loop-i-preserved
unfolding item_there
loop-i-preserved c = record {
  read = c.push_reserved.ensures.items
      ∙ ap (λ (l : List SlogItem). l ++ c.read_item.result ∷ []) c.loop-i.invariant.read
      ∙ ap (λ (j : SlogItem). items_from c.args.at c.loop-i.i c.args.bytes.now ++ j ∷ []) c.read_item.ensures
      ∙ items_more c.args.at c.loop-i.i c.args.bytes.now;
  len = omega (arith, c.push_reserved.ensures.len, c.loop-i.invariant.len);
  capacity = c.push_reserved.ensures.capacity ∙ c.loop-i.invariant.capacity;
}
