use Rattle.std.proofs.Common.{◌≡◌, ◌++◌, take}
use Rattle.std.specs.List.{flat_map}
use Rattle.ctr_rec.specs.Members.{pair_bytes}
use Rattle.ctr_rec.proofs.lists.push_pairs.Given as goal

abbrev pub invariant-loop-pair : goal.invariant-loop-pair
invariant-loop-pair l = l.into.items ≡ l.fn.into.items ++ flat_map pair_bytes (take l.pair-index l.pairs)
