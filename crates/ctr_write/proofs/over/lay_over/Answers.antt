use Rattle.std.proofs.Common.{ℕ, Err, List, length, refl, sym, ◌∙◌, ap, subst}
use Rattle.ctr_types.specs.declared.value.Column.{Column}
use Rattle.ctr_area.specs.Areas.{Slot}
use Rattle.ctr_meta.specs.Tables.{Tables}
use Rattle.ctr_area.specs.Reading.{slot_said, version_said}
use Rattle.ctr_page.specs.Places.{slot_size}
use Rattle.ctr_page.specs.Making.{IsVersion, IsSlot, slot_bytes}
use Rattle.ctr_page.specs.declared.rows.Version.{Version}
use Rattle.ctr_extend.specs.record_laws_Owed.{written_slot, loses_head}
use Rattle.ctr_extend.specs.record_effects_States.{area_in}
use Rattle.ctr_extend.specs.actions_Sites.{site_of}
use Rattle.ctr_extend.specs.actions_Actions.{Writes, Owes}
use Rattle.ctr_rec.specs.declared.record.Record.TheVariants.{Row}
use Rattle.ctr_extend.specs.record_effects_Changing.{laid_on_place}
use Rattle.ctr_extend.specs.walk_OneRecord.{WhyNotLogged}
use Rattle.ctr_extend.specs.heap_Writing.{slot_width, row_record, LaysMove}
use Rattle.ctr_extend.specs.heap_Ways.{writing_by}
use Rattle.ctr_extend.specs.page_turns_Turns.{LogsARecord}
use Rattle.ctr_write.specs.declared.stages.Written.TheVariants.{Done}
use Rattle.ctr_write.specs.Laying.{Wish, MayLay, LaysHead, IsReadyFor, move_of}
use Rattle.ctr_meta.specs.Effects.{one_head_more}
use Rattle.ctr_write.proofs.Steps.{slot_there, next_stays}
use Rattle.ctr_write.proofs.over.lay_over.Goals as goal

pub put_slot-requires-clause-lies : goal.put_slot-requires-clause-lies
put_slot-requires-clause-lies g c =
    let w = length c.args.head.now.payload in
    slot_there c.args.place c.written-slot.result w
    (c.written-slot.ensures.fits w c.requires.way.0 c.requires.fits.1 c.requires.fits.2 c.requires.way.1 (subst (λ (h : Version). IsVersion w h) (sym c.again.ensures) c.requires.fits.0)) c.requires.fits.3

pub returns-in-Ok-clause-turns : goal.returns-in-Ok-clause-turns
returns-in-Ok-clause-turns g c =
    c.a_turn_goes_on.ensures.answered g.O.Origin.first c.args.store.now c.put_slot.new.store tt Done (LogsARecord (row_record c.args.x c.replaced-over.result c.args.place c.written-slot.result, c.in-Ok.ensures.one))

pub returns-in-Err-clause-turns : goal.returns-in-Err-clause-turns
returns-in-Err-clause-turns g c =
    c.a_turn_goes_on.ensures.failed g.O.Origin.first c.args.store.now c.put_slot.new.store c.in-Err.fault (Err c.in-Err.fault) (Err c.in-Err.fault) (LogsARecord (row_record c.args.x c.replaced-over.result c.args.place c.written-slot.result, c.in-Err.ensures.one)) refl refl

pub returns-in-Ok-clause-is : goal.returns-in-Ok-clause-is
returns-in-Ok-clause-is g c =
    let takes = c.in-Ok.ensures.one.takes in
    (refl, (takes.left, ap (λ (u : Tables). u.next) takes.tables ∙ next_stays c.replaced-over.result (one_head_more c.args.x c.args.store.now.meta.tables)))

pub returns-in-Ok-clause-numbers : goal.returns-in-Ok-clause-numbers
returns-in-Ok-clause-numbers g c = c.in-Ok.ensures.one.takes.next

pub returns-in-Ok-clause-steps : goal.returns-in-Ok-clause-steps
returns-in-Ok-clause-steps g c = λ e told sound.
    let x = c.args.x in
    let at = c.args.place in
    let was = c.args.slot in
    let key = was.key in
    let head = c.again.result in
    let slot = c.written-slot.result in
    let over = c.replaced-over.result in
    let way = writing_by c.args.way c.args.kept in
    let a = c.args.store.now in
    let b = c.put_slot.new.store in
    let s = a.now in
    let by : Version → Wish = λ h. record { x = x; entry = e; key = key; head = h } in
    let P : Version → Type 0 = λ h. MayLay (by h) s → IsReadyFor e at was c.args.way c.args.kept s → LaysHead (by h) at way s b.now in
    subst P c.again.ensures (λ may ready.
    let wish = by head in
    let columns = ((area_in s).title e).columns in
    let old = (area_in s).slot at in
    let m = move_of wish at way s in
    let one = c.in-Ok.ensures in
    let whole = one.whole told sound in
    let among = ready.used.0 in
    let fits = c.a_place_of_a_table_fits.ensures.rows s e at may.sound among in
    let made = c.written-slot.ensures.made s.counted columns
    (record { made = ready.made; used = ready.is_used; some = c.requires.fits.2; way_is = c.requires.way; head_is = may.head_is; leads = ready.leads }) in
    let place = c.a_slot_is_put_at_its_place.ensures.place s e at slot may.sound among made whole in
    let puts = c.a_slot_is_put_at_its_place.ensures.puts s x over e at slot made whole in
    let lays : LaysMove s x over at slot m = record {
      by = refl;
      here = refl;
      left = ap (λ (y : ℕ). written_slot way (y, m.row) key old) (sym may.by)
          ∙ ap (λ (o : Slot). written_slot way (version_said columns key head) key o) (sym ready.said)
          ∙ sym (c.written-slot.ensures.said columns ready.is_used) ∙ ap (λ (l : List Column). slot_said l slot) (sym fits.2);
      loses = c.replaced-over.ensures s.tables columns ready.is_used ready.way_is ∙ ap (loses_head s.tables) ready.said;
    } in
    let owed : Owes x (Writes m) (site_of s) = (
      refl,
      c.a_way_fits_its_slot.ensures.owed s.tables (area_in s) e at was c.args.way c.args.kept x m.row
          (record { columns = columns; said = sym ready.said; fits = subst (λ n. IsSlot n was) (sym c.requires.fits.1.head.2) c.requires.fits.1; used = ready.used; kept = ready.kept }) ready.way_is may.is_open,
    ) in
    let laid = c.owed_slots_are_laid_as_their_actions.ensures.writes s (row_record x over at slot) m slot may.sound owed.1 puts in
    c.a_record_acts.ensures x (Writes m) (row_record x over at slot) a b (one.one.logs told sound) owed (one.leaves told sound place m lays) laid)

pub returns-in-Err-clause-refused : goal.returns-in-Err-clause-refused
returns-in-Err-clause-refused g c = λ e told sound may ready.
    let x = c.args.x in
    let at = c.args.place in
    let was = c.args.slot in
    let slot = c.written-slot.result in
    let way = writing_by c.args.way c.args.kept in
    let a = c.args.store.now in
    let b = c.put_slot.new.store in
    let s = a.now in
    let wish : Wish = record { x = x; entry = e; key = was.key; head = c.args.head.now } in
    let columns = ((area_in s).title e).columns in
    let m = move_of wish at way s in
    let o = laid_on_place at (slot_size (slot_width slot)) (slot_bytes (slot_width slot) slot) in
    let owed : Owes x (Writes m) (site_of s) = (
      refl,
      c.a_way_fits_its_slot.ensures.owed s.tables (area_in s) e at was c.args.way c.args.kept x m.row
          (record { columns = columns; said = sym ready.said; fits = subst (λ n. IsSlot n was) (sym c.requires.fits.1.head.2) c.requires.fits.1; used = ready.used; kept = ready.kept }) ready.way_is may.is_open,
    ) in
    let loses = c.replaced-over.ensures s.tables columns ready.is_used ready.way_is ∙ ap (loses_head s.tables) ready.said in
    c.a_record_is_refused_by_the_disk_alone.ensures x (Writes m) o a b (Err c.in-Err.fault) may.sound owed (c.meta-tables.ensures.now told sound c.requires.room.going)
    (subst (λ (n : ℕ). WhyNotLogged (Row x n o) a b c.in-Err.fault) loses (c.in-Err.ensures.one.refused told sound))
