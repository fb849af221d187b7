use Rattle.std.proofs.Common.{◌≡◌, ℕ, true, false, Vec, Global, get_or, below_more, ◌∙◌, sym, ap, arith}
use Rattle.ctr_rec.specs.declared.record.SlogItem.{SlogItem}
use Rattle.ctr_meta.specs.Items.{is_wanted, left_out}
use Rattle.std.proofs.lemmas.List.{get_or_default}
use Rattle.ctr_meta.proofs.ItemLaws.{out_at, out_none_any}
use Rattle.ctr_meta.proofs.items.take_out.Goals as goal

pub returns-then-is-clause-items : goal.returns-then-is-clause-items
returns-then-is-clause-items c =
    let is = c.loop-at.items.items in
    let d = c.index.result.now in
    let some : is_wanted c.args.wanted (get_or is c.loop-at.at d) ≡ true = ap (is_wanted c.args.wanted) (sym c.index.ensures) ∙ sym c.is.ensures ∙ c.if-is.true in
    c.remove.ensures.items
    ∙ sym (out_at c.args.wanted is c.loop-at.at d (λ k less. c.loop-at.invariant.before k d less) (omega arith) some)
    ∙ ap (λ (v : Vec SlogItem Global). left_out c.args.wanted v.items) c.loop-at.invariant.same

pub returns-clause-items : goal.returns-clause-items
returns-clause-items c =
    sym (out_none_any c.args.wanted c.loop-at.items.items (λ k d less. c.loop-at.invariant.before k d (omega (arith, less)))) ∙ ap (λ (v : Vec SlogItem Global). left_out c.args.wanted v.items) c.loop-at.invariant.same

pub loop-at-preserved : goal.loop-at-preserved
loop-at-preserved c = record {
  same = c.loop-at.invariant.same;
  before = λ k d less.
      below_more (λ (j : ℕ). is_wanted c.args.wanted (get_or c.loop-at.items.items j d) ≡ false) c.loop-at.at (λ j lt. c.loop-at.invariant.before j d lt)
      (ap (is_wanted c.args.wanted) (get_or_default c.loop-at.items.items c.loop-at.at d c.index.result.now (omega arith) ∙ sym c.index.ensures) ∙ sym c.is.ensures ∙ c.if-is.false) k less;
}
