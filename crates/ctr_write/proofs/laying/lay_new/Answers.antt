use Rattle.std.proofs.Common.{ℕ, ℤ, w64, to_z, of_z, Err, List, length, refl, sym, ◌∙◌, ap, subst}
use Rattle.std.proofs.lemmas.Int.{to_z-of_z}
use Rattle.ctr_types.specs.declared.value.Column.{Column}
use Rattle.ctr_meta.specs.Tables.{Tables}
use Rattle.ctr_area.specs.Reading.{slot_said}
use Rattle.ctr_page.specs.Places.{bucket_of, slot_size}
use Rattle.ctr_extend.specs.record_laws_Owed.{FirstVersion, written_slot, IsRoomFor}
use Rattle.ctr_page.specs.declared.rows.Version.{Version}
use Rattle.ctr_page.specs.Making.{IsVersion, slot_bytes}
use Rattle.ctr_extend.specs.record_effects_States.{area_in}
use Rattle.ctr_extend.specs.actions_Sites.{site_of}
use Rattle.ctr_extend.specs.actions_Actions.{Writes, Owes}
use Rattle.ctr_rec.specs.declared.record.Record.TheVariants.{Row}
use Rattle.ctr_extend.specs.record_effects_Changing.{laid_on_place}
use Rattle.ctr_extend.specs.walk_OneRecord.{WhyNotLogged}
use Rattle.ctr_extend.specs.heap_Writing.{slot_width, row_record, LaysMove}
use Rattle.ctr_extend.specs.page_turns_Turns.{LogsARecord}
use Rattle.ctr_write.specs.declared.stages.Written.TheVariants.{Done}
use Rattle.ctr_write.specs.Laying.{Wish, MayLay, LaysHead, move_of}
use Rattle.ctr_write.proofs.Steps.{loses_none, slot_there}
use Rattle.ctr_write.proofs.laying.lay_new.Goals as goal

pub returns-in-Ok-clause-turns : goal.returns-in-Ok-clause-turns
returns-in-Ok-clause-turns g c =
    c.a_turn_goes_on.ensures.answered g.O.Origin.first c.args.store.now c.put_slot.new.store tt Done (LogsARecord (row_record c.args.x 0 c.args.place c.first-slot.result, c.in-Ok.ensures.one))

pub returns-in-Err-clause-turns : goal.returns-in-Err-clause-turns
returns-in-Err-clause-turns g c =
    c.a_turn_goes_on.ensures.failed g.O.Origin.first c.args.store.now c.put_slot.new.store c.in-Err.fault (Err c.in-Err.fault) (Err c.in-Err.fault) (LogsARecord (row_record c.args.x 0 c.args.place c.first-slot.result, c.in-Err.ensures.one)) refl refl

pub returns-in-Ok-clause-is : goal.returns-in-Ok-clause-is
returns-in-Ok-clause-is g c = (refl, (c.in-Ok.ensures.one.takes.left, ap (λ (u : Tables). u.next) c.in-Ok.ensures.one.takes.tables))

pub returns-in-Ok-clause-numbers : goal.returns-in-Ok-clause-numbers
returns-in-Ok-clause-numbers g c = c.in-Ok.ensures.one.takes.next

pub returns-in-Ok-clause-steps : goal.returns-in-Ok-clause-steps
returns-in-Ok-clause-steps g c = λ e told sound.
    let x = c.args.x in
    let at = c.args.place in
    let key = to_z w64 (of_z w64 c.args.key) in
    let head = c.again.result in
    let slot = c.first-slot.result in
    let a = c.args.store.now in
    let b = c.put_slot.new.store in
    let s = a.now in
    let by : ℤ → Version → Wish = λ k h. record { x = x; entry = e; key = k; head = h } in
    let P : ℤ → Version → Type 0 = λ k h. MayLay (by k h) s → IsRoomFor (area_in s) e k at → LaysHead (by k h) at FirstVersion s b.now in
    subst (λ (k : ℤ). P k c.args.head.now) (to_z-of_z w64 c.args.key c.ranges.key) (subst (λ (h : Version). P key h) c.again.ensures (λ may room.
    let wish = by key head in
    let columns = ((area_in s).title e).columns in
    let old = (area_in s).slot at in
    let m = move_of wish at FirstVersion s in
    let one = c.in-Ok.ensures in
    let whole = one.whole told sound in
    let among = c.a_free_slot_is_the_tables.ensures (area_in s) e (bucket_of key) at (room.here, room.free) in
    let fits = c.a_place_of_a_table_fits.ensures.rows s e at may.sound among in
    let made = c.first-slot.ensures.made s.counted columns may.head_is in
    let place = c.a_slot_is_put_at_its_place.ensures.place s e at slot may.sound among made whole in
    let puts = c.a_slot_is_put_at_its_place.ensures.puts s x 0 e at slot made whole in
    let lays : LaysMove s x 0 at slot m = record {
      by = refl;
      here = refl;
      left = ap (λ (y : ℕ). written_slot FirstVersion (y, m.row) key old) (sym may.by) ∙ sym (c.first-slot.ensures.said columns old) ∙ ap (λ (l : List Column). slot_said l slot) (sym fits.2);
      loses = loses_none s.tables old room.free;
    } in
    let owed : Owes x (Writes m) (site_of s) = (refl, record { is_open = may.is_open; fits = room }) in
    let laid = c.owed_slots_are_laid_as_their_actions.ensures.writes s (row_record x 0 at slot) m slot may.sound owed.1 puts in
    c.a_record_acts.ensures x (Writes m) (row_record x 0 at slot) a b (one.one.logs told sound) owed (one.leaves told sound place m lays) laid))

pub put_slot-requires-clause-lies : goal.put_slot-requires-clause-lies
put_slot-requires-clause-lies g c =
    let w = length c.args.head.now.payload in
    slot_there c.args.place c.first-slot.result w (c.first-slot.ensures.fits w (subst (λ (h : Version). IsVersion w h) (sym c.again.ensures) c.requires.fits)) c.requires.lies

pub returns-in-Err-clause-refused : goal.returns-in-Err-clause-refused
returns-in-Err-clause-refused g c = λ e told sound may room.
    let x = c.args.x in
    let at = c.args.place in
    let slot = c.first-slot.result in
    let a = c.args.store.now in
    let b = c.put_slot.new.store in
    let s = a.now in
    let wish : Wish = record { x = x; entry = e; key = c.args.key; head = c.args.head.now } in
    let m = move_of wish at FirstVersion s in
    let o = laid_on_place at (slot_size (slot_width slot)) (slot_bytes (slot_width slot) slot) in
    let owed : Owes x (Writes m) (site_of s) = (refl, record { is_open = may.is_open; fits = room }) in
    c.a_record_is_refused_by_the_disk_alone.ensures x (Writes m) o a b (Err c.in-Err.fault) may.sound owed (c.meta-tables.ensures.now told sound c.requires.room.going)
    (subst (λ (n : ℕ). WhyNotLogged (Row x n o) a b c.in-Err.fault) (loses_none s.tables ((area_in s).slot at) room.free) (c.in-Err.ensures.one.refused told sound))
