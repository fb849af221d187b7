use Rattle.std.proofs.Common.{◌-◌, List, drop, length, subst, arith}
use Rattle.std.proofs.lemmas.List.{length-drop, take_all}
use Rattle.ctr_rec.specs.declared.record.SlogItem.{SlogItem}
use Rattle.ctr_rec.specs.declared.record.SlogItem.TheVariants.{FreeOf}
use Rattle.ctr_area.specs.Sound.{IsAmong}
use Rattle.ctr_clean.proofs.lists.freed_behind.Goals as goal

pub returns-clause-none : goal.returns-clause-none
returns-clause-none c = λ none p.
    let items = c.args.items.now in
    let n = c.args.spared in
    let long = length-drop n items in
    subst (λ (rest : List SlogItem). IsAmong (FreeOf p) rest → ⊥) (take_all (length items - n) (drop n items) (omega (arith, long))) (c.first_freed.ensures.none none p)
