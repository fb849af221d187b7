use Rattle.std.proofs.Common.{◌≡◌, [], ◌∷◌, length, Some, sym, ap, ◌∙◌, subst}
use Rattle.ctr_rec.specs.declared.record.Record.{Record}
use Rattle.ctr_rec.specs.declared.record.Record.TheVariants.{Row}
use Rattle.ctr_meta.specs.Effects.{one_head_less, one_head_more}
use Rattle.ctr_passed.specs.redo_States.{step, page_at}
use Rattle.ctr_page.specs.Places.{slot_size}
use Rattle.ctr_page.specs.Making.{slot_bytes, IsSlot}
use Rattle.ctr_passed.specs.area_Reading.{slot_said, columns_on}
use Rattle.ctr_passed.specs.area_Changes.{with_slot}
use Rattle.ctr_passed.specs.record_laws_Owed.{loses_head}
use Rattle.ctr_passed.specs.record_effects_States.{pages_in, area_in}
use Rattle.ctr_walk.specs.record_effects_Changing.{laid_on_place}
use Rattle.ctr_passed.specs.actions_Sites.{site_of}
use Rattle.ctr_passed.specs.actions_Actions.{Writes, site_after}
use Rattle.ctr_walk.specs.store_Store.{Logs}
use Rattle.ctr_walk.proofs.Records.{both_ok}
use Rattle.ctr_walk.proofs.Limits.{below_limit}
use Rattle.ctr_heap.proofs.OneRecord.{slot_laid}
use Rattle.ctr_heap.proofs.writing.put_slot.Goals as goal

pub log_on_page-requires-clause-there : goal.log_on_page-requires-clause-there
log_on_page-requires-clause-there g c = below_limit c.args.place.page c.args.store.now.now.counted c.requires.counted c.counts_pages.ensures.1

pub returns-clause-laid : goal.returns-clause-laid
returns-clause-laid g c = λ told sound place.
    let at = c.args.place in
    let slot = c.args.slot.now in
    let s = c.args.store.now.now in
    let r : Record = Row c.args.x c.args.over c.over_place.result in
    let size = c.slot_size.ensures.value ∙ ap (λ l. slot_size (length l)) c.as_slice-w.ensures in
    let bytes = slot_laid slot c.as_slice-w.result.now c.make_slot-size.result c.make_slot-size.new.into _ c.as_slice-w.ensures c.requires.lies.is c.make_slot-size.ensures.number c.make_slot-size.ensures.bytes in
    let laid = c.over_place.ensures ∙ (λ i. laid_on_place at (size i) (bytes i)) in
    both_ok c.log_on_page.result (Logs (r ∷ []) c.args.store.now c.log_on_page.new.store) (length (page_at at.page s.pages) ≡ 4096)
    (area_in c.log_on_page.new.store.now ≡ with_slot at (slot_said (columns_on (pages_in s) at.page) slot) (area_in s))
    (λ logs whole. ap area_in logs.now
    ∙ c.a_slot_is_laid.ensures s r at slot whole place.0 (subst (λ w. IsSlot w slot) (sym place.1) c.requires.lies.is)
    (ap Some laid ∙ sym (ap (λ w. Some (laid_on_place at (slot_size w) (slot_bytes w slot))) place.1)))
    (c.log_on_page.ensures.one.logs told sound) (c.log_on_page.ensures.whole told sound)

pub returns-clause-leaves : goal.returns-clause-leaves
unfolding returns-clause-laid
returns-clause-leaves g c = λ told sound place m lays.
    let x = c.args.x in
    let at = c.args.place in
    let s = c.args.store.now.now in
    let o = c.over_place.result in
    let r : Record = Row x c.args.over o in
    let loses = loses_head s.tables ((area_in s).slot m.at) in
    let slot = slot_said (columns_on (pages_in s) at.page) c.args.slot.now in
    both_ok c.log_on_page.result (Logs (r ∷ []) c.args.store.now c.log_on_page.new.store) (area_in c.log_on_page.new.store.now ≡ with_slot at slot (area_in s))
    (site_of c.log_on_page.new.store.now ≡ site_after x (Writes m) (site_of s))
    (λ logs is.
    let same : c.log_on_page.new.store.now ≡ step (Row x loses o) s = logs.now ∙ ap (λ v. step (Row x v o) s) lays.loses in
    ap site_of same
    ∙ c.a_logged_record_is_its_action.ensures.leaves x (Writes m) s o (ap (λ y. one_head_less loses (one_head_more y s.tables)) (sym lays.by))
    (sym (ap area_in same) ∙ is ∙ (λ i. with_slot (sym lays.here i) (sym lays.left i) (area_in s))))
    (c.log_on_page.ensures.one.logs told sound) (returns-clause-laid g c told sound place)
