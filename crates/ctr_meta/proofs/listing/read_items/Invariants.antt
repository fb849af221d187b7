use Rattle.std.proofs.Common.{◌≡◌, ◌+◌, vec_len, vec_capacity}
use Rattle.ctr_rec.specs.Members.{items_from}
use Rattle.ctr_meta.proofs.listing.read_items.Given as goal

abbrev pub invariant-loop-i : goal.invariant-loop-i
invariant-loop-i l = record {
  read : l.into.items ≡ items_from l.at l.i l.bytes;
  len : vec_len l.into ≡ vec_len l.initial.into + l.i;
  capacity : vec_capacity l.into ≡ vec_capacity l.initial.into;
}
