use Rattle.std.proofs.Common.{◌≡◌, ◌+◌, ◌*◌, ◌++◌, ◌∷◌, [], ℕ, List, sym, ap, ◌∙◌, arith}
use Rattle.ctr_rec.specs.bytes_Fields.{field}
use Rattle.ctr_rec.specs.Members.{pairs_from}
use Rattle.ctr_meta.specs.Tables.{is_in}
use Rattle.ctr_meta.proofs.XidLaws.{absent}
use Rattle.ctr_meta.proofs.ListingLaws.{no_pairs, pair_new, pairs_more}
use Rattle.ctr_meta.proofs.listing.read_pairs.Goals as goal

pub loop-i-init : goal.loop-i-init
loop-i-init c = record {
  read = c.requires.empty ∙ sym (no_pairs c.args.at c.args.bytes.now);
  spare = omega arith;
}

pub add-requires-clause-new : goal.add-requires-clause-new
add-requires-clause-new c =
    let new = pair_new c.args.at c.loop-i.i c.args.count c.args.bytes.now c.loop-i-test.true c.requires.once in
    absent c.get_u64.result c.loop-i.into.entries
    (ap (λ (k : ℕ). is_in k c.loop-i.into.entries) c.get_u64.ensures.got ∙ ap (is_in (field 8 (c.args.at + 16 * c.loop-i.i) c.args.bytes.now)) c.loop-i.invariant.read ∙ new)

pub loop-i-preserved : goal.loop-i-preserved
loop-i-preserved c = record {
  read = c.add.ensures.entries
      ∙ ap (λ (l : List (ℕ × ℕ)). l ++ (c.get_u64.result, c.get_u64-in-loop-i.result) ∷ []) c.loop-i.invariant.read
      ∙ pair_is (pairs_from c.args.at c.loop-i.i c.args.bytes.now) c.get_u64.ensures.got c.get_u64-in-loop-i.ensures.got
      ∙ pairs_more c.args.at c.loop-i.i c.args.bytes.now;
  spare = omega (arith, c.add.ensures.spare, c.loop-i.invariant.spare);
}
  where
    pair_is : (l : List (ℕ × ℕ)) {a b x y : ℕ} → a ≡ x → b ≡ y → l ++ (a, b) ∷ [] ≡ l ++ (x, y) ∷ []
    pair_is l e f = cc
