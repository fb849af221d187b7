use Rattle.std.proofs.Common.{inl, inr, List, refl, sym, ◌∙◌, ap, subst}
use Rattle.ctr_area.specs.Areas.{Slot}
use Rattle.ctr_rollback.specs.actions_Facts.{Fact, HasSlot, HasTable}
use Rattle.ctr_area.specs.Sound.{IsAmong}
use Rattle.ctr_rollback.proofs.kept_Tables.{among_first}
use Rattle.ctr_write.specs.Carrying.{facts_kept}
use Rattle.ctr_write.proofs.Carried.{opens_table}
use Rattle.ctr_told.proofs.Going.{goes_on, chain_of_table}
use Rattle.ctr_told.proofs.writing.a_write_that_goes_on_is_kept.Goals as goal

pub returns : goal.returns
returns g c = λ run opened a b w writes stage ends rested.
    let s = writes.s in
    let seat = writes.seat in
    let title = writes.title in
    let entry = writes.entry in
    let held = λ (f : Fact) (in_ : IsAmong f (w.facts s)). writes.keeps.walks.scene.carried.held s seat.session f seat.at in_ in
    let has = held (HasTable entry title) (opens_table title entry writes.key writes.stage writes.more (w.facts s) writes.carries).1 in
    goes_on g.D.Disk run opened a b w writes
    (λ wants e logged extends. c.a_turn_for_a_page_is_kept.ensures.kept run opened a b w wants e logged rested extends)
    (λ of q looking is keeps. c.a_turn_of_a_write_is_kept.ensures.kept run opened a b w writes of q looking rested is keeps)
    has
    (λ of q are. let slot = held (HasSlot entry of.at of.slot) (subst (λ (l : List Fact). IsAmong (HasSlot entry of.at of.slot) l) (sym are) (among_first (HasSlot entry of.at of.slot) (facts_kept title entry of q) writes.more (inr (inr (inr (inl refl)))))) in
    (slot.0, ap (λ (o : Slot). o.key) slot.1 ∙ of.of_key))
    (chain_of_table entry writes.key) writes.stage stage refl writes.carries ends
