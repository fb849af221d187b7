use Rattle.std.proofs.Common.{⊎_elim, get_or, sym, ◌∙◌, ap, subst, arith}
use Rattle.std.proofs.lemmas.List.{get_or_default}
use Rattle.ctr_rec.specs.declared.record.SlogItem.{SlogItem}
use Rattle.ctr_rec.specs.declared.record.SlogItem.TheVariants.{AllocOf, FreeOf}
use Rattle.ctr_area.specs.Sound.{IsAmong}
use Rattle.ctr_clean.proofs.Listed.{member_at, place_of, at_or_below}
use Rattle.ctr_clean.proofs.lists.first_freed.Goals as goal

pub returns-in-FreeOf-clause-found : goal.returns-in-FreeOf-clause-found
returns-in-FreeOf-clause-found c = subst (λ (i : SlogItem). IsAmong i c.args.items.now) c.in-FreeOf.is (member_at c.args.items.now c.loop-at.at (AllocOf 0 0) c.loop-at-test.true)

pub loop-at-preserved : goal.loop-at-preserved
loop-at-preserved c = λ k p d less is. ⊎_elim
    (λ below. c.loop-at.invariant k p d below is)
    (λ here. c.in_default.not-FreeOf p (get_or_default c.args.items.now c.loop-at.at (AllocOf 0 0) d c.loop-at-test.true ∙ ap (λ j. get_or c.args.items.now j d) (sym here) ∙ is))
    (at_or_below k c.loop-at.at less)

pub returns-clause-none : goal.returns-clause-none
returns-clause-none c = λ none p in_.
    let there = place_of (FreeOf p) (AllocOf 0 0) c.args.items.now in_ in
    c.loop-at.invariant there.0 p (AllocOf 0 0) (omega (arith, there.1, c.loop-at-test.false)) there.2
