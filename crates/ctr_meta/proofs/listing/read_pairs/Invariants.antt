use Rattle.std.proofs.Common.{◌≡◌, ◌≤◌, ◌+◌}
use Rattle.ctr_rec.specs.Members.{pairs_from}
use Rattle.ctr_meta.proofs.listing.read_pairs.Given as goal

abbrev pub invariant-loop-i : goal.invariant-loop-i
invariant-loop-i l = record {
  read : l.into.entries ≡ pairs_from l.at l.i l.bytes;
  spare : l.initial.into.spare ≤ l.into.spare + l.i;
}
