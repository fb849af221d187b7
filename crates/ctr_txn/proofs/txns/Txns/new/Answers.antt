use Rattle.std.proofs.Common.{◌<◌, None, length, sym, ◌∙◌, ap, subst, arith, refl}
use Rattle.std.specs.Prelude.{get_or}
use Rattle.std.proofs.lemmas.List.{length_push}
use Rattle.ctr_txn.proofs.Slots.{nobody_more, none_are}
use Rattle.ctr_txn.proofs.txns.Txns.new.Goals as goal

pub loop-at-preserved : goal.loop-at-preserved
loop-at-preserved c =
    let items = c.in_ok-push.ensures.items in
    let before = c.loop-at.invariant in (
      omega (arith, before.0, ap (λ l. length l) items, length_push c.loop-at.sessions.items None),
      λ i. ap (λ l. get_or l i None) items ∙ nobody_more c.loop-at.sessions.items i before.1,
    )

pub invariant_of-result : goal.invariant_of-result
invariant_of-result c = none_are _ (omega (arith, c.loop-at.invariant.0, c.loop-at-test.false, c.loop-at.auto.at-end)) c.loop-at.invariant.1 refl c.new.ensures.commits (subst (λ n. 0 < n) (sym c.new.ensures.first) c.requires)
