use Rattle.std.proofs.Common.{◌≡◌, ◌<◌, ◌≤◌, ◌-◌, ◌+◌, ◌/◌, ℕ, length, get_or, arith}
use Rattle.ctr_pool.proofs.PlaceLaws.{up_to, from_on}
use Rattle.ctr_pool.proofs.finding.find.Goals as goal

pub loop-low-preserved-then-at-page-2 : goal.loop-low-preserved-then-at-page-2
loop-low-preserved-then-at-page-2 c =
    let m = c.loop-low.low + (c.loop-low.high - c.loop-low.low) / 2 in
    let lt : m < c.loop-low.high = omega (arith, c.loop-low-test.true) in
    let inside : m < length c.args.entries.now = omega (arith, lt, c.loop-low.invariant.inside) in
    record {
      between = omega (arith, lt);
      inside = c.loop-low.invariant.inside;
      below = up_to c.args.entries.now m (0, 0) c.args.page c.requires inside c.if-at-page-2.true;
      above = c.loop-low.invariant.above;
    }

pub loop-low-preserved : goal.loop-low-preserved
loop-low-preserved c =
    let m = c.loop-low.low + (c.loop-low.high - c.loop-low.low) / 2 in
    let lt : m < c.loop-low.high = omega (arith, c.loop-low-test.true) in
    let inside : m < length c.args.entries.now = omega (arith, lt, c.loop-low.invariant.inside) in
    let d : ℕ × ℕ = (0, 0) in
    let above : c.args.page < (get_or c.args.entries.now m d).0 = ne_lt (get_or c.args.entries.now m d).0 c.args.page c.if-at-page-2.false c.if-at-page.false in
    record {
      between = omega (arith, c.loop-low-test.true);
      inside = omega (arith, inside);
      below = c.loop-low.invariant.below;
      above = from_on c.args.entries.now m d c.args.page c.requires inside above;
    }
  where
    ne_lt : (a b : ℕ) → b ≤ a → (a ≡ b → ⊥) → b < a
    ne_lt a b le ne = omega (arith, le, ne)
