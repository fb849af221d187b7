use Rattle.std.proofs.Common.{inl, inr, List, [], ◌++◌, refl, sym, ◌∙◌, ap, subst}
use Rattle.std.proofs.lemmas.List.{append-nil}
use Rattle.ctr_model.specs.Texts.{answers}
use Rattle.ctr_area.specs.Areas.{Title, Slot}
use Rattle.ctr_area.specs.Sound.{IsAmong}
use Rattle.ctr_extend.specs.heap_Ways.{IsHeadOf}
use Rattle.ctr_extend.specs.record_effects_States.{area_in}
use Rattle.ctr_extend.specs.record_laws_Owed.{older_copy}
use Rattle.ctr_extend.specs.actions_Sites.{Site, site_of}
use Rattle.ctr_extend.specs.actions_Actions.{Keeps, site_after}
use Rattle.ctr_extend.specs.actions_Facts.{Fact, IsOpen, HasTable, HasBlank, HasNoPageBut, HasSlot, HasCopy, HoldsFact}
use Rattle.ctr_extend.specs.kept_Turns.{KeepsRun, carrying}
use Rattle.ctr_extend.proofs.kept_Tables.{among_last, by_parts, no_blank, titles_held, carries_more, uses_more}
use Rattle.ctr_extend.proofs.Carrying.{live_state}
use Rattle.ctr_write.specs.declared.stages.Stage.{Stage}
use Rattle.ctr_write.specs.Carrying.{AreOfStage, facts_looking, facts_kept}
use Rattle.ctr_write.proofs.Carried.{at_stage, carried_kept, opens_table, none_blank}
use Rattle.ctr_write.proofs.laws.a_turn_of_a_write_is_kept.Goals as goal

pub returns-clause-may : goal.returns-clause-may
returns-clause-may g c = λ run opened a w writes.
    let seat = writes.seat in
    let s = writes.s in
    let me = seat.session.me in
    let e = writes.entry in
    let title = writes.title in
    let scene = writes.keeps.walks.scene in
    let both = opens_table title e writes.key writes.stage writes.more (w.facts s) writes.carries in
    let held = λ (f : Fact) (in_ : IsAmong f (w.facts s)). scene.carried.held s seat.session f seat.at in_ in
    let has = held (HasTable e title) both.1 in
    let under = scene.carried.under s seat.t (HasTable e title) seat.is_t both.1 in
    record {
      lay = record {
        sound = writes.keeps.pages.sound;
        is_open = held IsOpen both.0;
        by = writes.by;
        head_is = subst (λ (t : Title). IsHeadOf t.columns writes.key writes.head) (sym has) writes.head_is;
      };
      there = λ none. live_state title.state under.0 (ap (λ (t : Title). t.state) (sym has) ∙ none);
      at_stage = at_stage me title e writes.key a.now writes.more (w.facts s) has held (λ p h in_. writes.keeps.pages.blank s seat.session p h seat.at in_) writes.stage writes.carries;
    }

pub returns-clause-kept : goal.returns-clause-kept
returns-clause-kept g c = λ run opened a b w writes of q looking rested is_slot off.
    let seat = writes.seat in
    let s = writes.s in
    let me = seat.session.me in
    let e = writes.entry in
    let title = writes.title in
    let site = site_of a.now in
    let now = g.D.Disk.moment_of a.disk in
    let later = g.D.Disk.moment_of b.disk in
    let world = writes.keeps in
    let scene = world.walks.scene in
    let acts = off.acts in
    let act = Keeps e q (older_copy ((area_in a.now).slot of.at) of.version) in
    let z = site_after me act site in
    let its = facts_kept title e of q in
    let more = writes.more in
    let mine = its ++ more in
    let v = carrying s mine w in
    let are = subst (λ (st : Stage). AreOfStage title e writes.key st more (w.facts s)) looking writes.carries in
    let held = λ (f : Fact) (in_ : IsAmong f (w.facts s)). scene.carried.held s seat.session f seat.at in_ in
    let both = opens_table title e writes.key writes.stage writes.more (w.facts s) writes.carries in
    let has = held (HasTable e title) both.1 in
    let under = scene.carried.under s seat.t (HasTable e title) seat.is_t both.1 in
    let none = held (HasNoPageBut []) (subst (λ (l : List Fact). IsAmong (HasNoPageBut []) l) (sym are) (inr (inr (inl refl)))) in
    let others : (f : Fact) → IsAmong f more → IsAmong f (w.facts s) = λ f in_. subst (λ (l : List Fact). IsAmong f l) (sym are) (among_last f (facts_looking title e) more in_) in
    let slot = subst (λ (y : Site). HoldsFact me (HasSlot e of.at of.slot) y) acts.does.leaves (subst (λ (o : Slot). HoldsFact me (HasSlot e of.at o) (site_of b.now)) (sym is_slot) off.has) in
    let copy = subst (λ (y : Site). HoldsFact me (HasCopy e of.at of.version q) y) acts.does.leaves off.copy in
    let walked = c.a_turn_without_an_entry_is_kept.ensures run now later s site w seat act mine world.walks rested.later writes.some acts.does.owed tt
    (c.what_is_done_stays.ensures.bounds me act a.now b.now acts.does)
    refl
    (carries_more me more writes.tables seat.t seat.t site z its (λ f in_. scene.carried.under s seat.t f seat.is_t (others f in_)) (uses_more seat.t seat.t (λ name is. is) (λ name is. is))
    (titles_held me more writes.tables site z (λ f in_. held f (others f in_)) (λ n. refl))
    (carried_kept me seat.t title e writes.key of q z (held IsOpen both.0) has under writes.lock none slot copy)) in
    let walks = subst (λ (y : Site). KeepsRun run later y v) (sym acts.does.leaves) walked in
    let pages = c.an_action_keeps_the_pages.ensures.own run now s a.now b.now w v seat act mine world.walks world.pages writes.some acts.does acts.lies acts.passes
    (λ r two. refl) refl (λ p h in_. absurd (by_parts (HasBlank p h) its more in_ (none_blank title e writes.key of q p h) (no_blank more writes.tables p h))) in
    c.a_turn_of_a_world_is_kept.ensures.logged run opened a b w v [] rested.rec world (sym (append-nil w.tape)) walks (record { at = tt; none = ap answers (append-nil w.tape) }) pages rested.front rested.rests rested.logs
