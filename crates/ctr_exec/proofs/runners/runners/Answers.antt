use Rattle.std.proofs.Common.{◌≡◌, ◌+◌, ◌∷◌, [], length, sym, ◌∙◌, ap, subst, arith, length-append}
use Rattle.std.specs.List.{AllByRecursion}
use Rattle.ctr_exec.specs.Runners.{IsUnbegun, IsRunnerOf, AreRunners}
use Rattle.ctr_exec.proofs.Places.{are_more, fresh_more}
use Rattle.ctr_exec.proofs.runners.runners.Goals as goal

pub loop-s-preserved : goal.loop-s-preserved
loop-s-preserved c =
    let items = c.in_ok-push.ensures.items in
    let before = c.loop-s.invariant in
    let long = ap length items ∙ length-append c.loop-s.runners.items (c.in_ok-fresh.field-0 ∷ []) in
    let at = before.0 in (
      omega (arith, long, at),
      subst (AreRunners c.args.lines.now 1) (sym items) (are_more c.args.lines.now 1 c.loop-s.runners.items c.in_ok-fresh.field-0 before.1 (subst (λ n. IsRunnerOf c.args.lines.now n c.in_ok-fresh.field-0) (here before.0) c.in_ok-fresh.ensures.of)),
      subst (AllByRecursion IsUnbegun) (sym items) (fresh_more c.loop-s.runners.items c.in_ok-fresh.field-0 before.2 c.in_ok-fresh.ensures.fresh),
    )
  where
    here : length c.loop-s.runners.items + 1 ≡ c.loop-s.s → c.loop-s.s ≡ 1 + length c.loop-s.runners.items
    here is = omega (arith, is)
