use Rattle.std.proofs.Common.{◌≡◌, ℕ, Bool, inl, [], ◌∷◌, List, Some, Err, Result, refl, sym, ◌∙◌, ap, subst}
use Rattle.std.specs.Prelude.{IsTrue, OnOk, ⊤}
use Rattle.ctr_pvs.specs.base_Base.{IsSoundImage}
use Rattle.ctr_types.specs.declared.value.Column.{Column}
use Rattle.ctr_rec.specs.declared.record.Record.{Record}
use Rattle.ctr_passed.specs.redo_States.{State}
use Rattle.ctr_page.specs.declared.walk.BadChain.{BadChain}
use Rattle.ctr_page.specs.declared.rows.RowSlot.{RowSlot}
use Rattle.ctr_page.specs.Places.{slot_size}
use Rattle.ctr_page.specs.Making.{slot_bytes, IsSlot}
use Rattle.ctr_passed.specs.area_Areas.{Slot}
use Rattle.ctr_passed.specs.area_Reading.{slot_said, columns_on, width_on}
use Rattle.ctr_passed.specs.area_Chains.{slot_places}
use Rattle.ctr_passed.specs.area_Changes.{with_slot}
use Rattle.ctr_passed.specs.area_Sound.{IsAmong}
use Rattle.ctr_pvs.specs.store_Store.{Logs}
use Rattle.ctr_pvs.specs.walk_OneRecord.{LogsOne}
use Rattle.ctr_pvs.specs.walk_Damage.{damage_told}
use Rattle.ctr_pvs.proofs.walk_Records.{both_ok, one_behind}
use Rattle.ctr_record_effects.specs.States.{pages_in, area_in, IsWholePage}
use Rattle.ctr_record_effects.specs.Changing.{laid_on_place}
use Rattle.ctr_record_effects.specs.Standing.{IsDatabaseState}
use Rattle.ctr_passed.specs.record_laws_Owed.{OwedByTrim, trimmed_slot}
use Rattle.ctr_passed.specs.actions_Sites.{site_of}
use Rattle.ctr_passed.specs.actions_Actions.{Trims, site_after}
use Rattle.ctr_passed.specs.Laid.{width_in}
use Rattle.ctr_passed.specs.Logged.{IsSlotOf}
use Rattle.ctr_undamaged.specs.heap_Writing.{slot_width}
use Rattle.ctr_bytes.specs.Following.{◌>>=◌}
use Rattle.ctr_page.specs.declared.rows.Place.{Place}
use Rattle.ctr_pvs.specs.Table.{owner_of}
use Rattle.ctr_pvs.specs.Reading.{row_check_at}
use Rattle.ctr_undamaged.specs.revert_Reverting.{behind_check, row_slot_at, revert_check}
use Rattle.ctr_undamaged.specs.Undamaged.{MeetsNoDamage}
use Rattle.ctr_page_turns.specs.Acts.{ActsBy}
use Rattle.ctr_trim.specs.Trimming.{trimming_by, slot_left, trim_record, EndsCheck, IsSlotThere}
use Rattle.ctr_trim.proofs.Left.{left_said, left_fits, left_made}
use Rattle.ctr_trim.specs.declared.slots.SlotLaid.{SlotLaid}
use Rattle.ctr_trim.proofs.Reading.{reads_fault, by_disk, three_ok}
use Rattle.ctr_trim.proofs.Logged.{trim_is, trims}
use Rattle.ctr_trim.proofs.trimming.trim_slot.Given.{Over}
use Rattle.ctr_trim.proofs.trimming.trim_slot.Goals.{After-lay}
use Rattle.ctr_trim.proofs.trimming.trim_slot.Goals as goal

-- a used slot is read without damage
undamaged : (s : State) (at : Place) → MeetsNoDamage {T = ⊤} (λ r. r ≡ revert_check s.counted (pages_in s) at) → (bad : BadChain) → row_check_at s.counted (pages_in s) at ≡ Err bad → ⊥
undamaged s at none bad fails =
    let slot = row_slot_at (pages_in s) at in
    none.ends bad (sym (ap (λ (r : Result ⊤ BadChain). r >>= λ _. behind_check s.counted (pages_in s) (owner_of (pages_in s at.page)) slot.previous slot.older) fails))

pub returns-in-Err-clause-one : goal.returns-in-Err-clause-one
returns-in-Err-clause-one g c = inl (reads_fault g.O.Origin.first g.D.Disk c.args.store.now c.read_left.new.store SlotLaid ⊤ c.in-Err.fault c.read_left.result c.in-Err.is c.read_left.ensures.leaves)

pub returns-in-Err-clause-refused : goal.returns-in-Err-clause-refused
returns-in-Err-clause-refused g c = λ e passes told sound database owed.
    let s = c.args.store.now.now in
    let at = c.args.place in
    by_disk {T = SlotLaid} (EndsCheck (row_check_at s.counted (pages_in s) at)) (damage_told g.D.Disk c.read_left.new.store) c.in-Err.fault
    (undamaged s at (c.a_head_is_taken_without_damage.ensures s e at database owed.used)) (c.in-Err.ensures.ends told sound)

-- what is left of the slot was laid
module _ (g : Over) (c : After-lay g) where
  abbrev slot : RowSlot
  slot = c.in-Ok.ensures.laid.slot

  abbrev r : Record
  r = trim_record c.args.way c.args.place slot

  abbrev s : State
  s = c.args.store.now.now

  one : LogsOne {T = ⊤} g.O.Origin.first g.D.Disk r c.args.store.now c.lay.new.store c.lay.result
  one =
      one_behind g.O.Origin.first g.D.Disk r c.args.store.now c.read_left.new.store c.lay.new.store c.in-Ok.laid c.in-Ok.ensures.leaves c.lay.result
      (subst (λ (q : Record). LogsOne {T = ⊤} g.O.Origin.first g.D.Disk q c.read_left.new.store c.lay.new.store c.lay.result) (trim_is c.args.way c.args.place slot c.in-Ok.laid c.in-Ok.ensures.laid.bytes_of) c.lay.ensures.one)

  module _ (told : IsTrue g.D.Disk.tells) (sound : IsSoundImage g.O.Origin.first) where
    there : IsSlotThere s c.args.place slot
    there = c.in-Ok.ensures.laid.there (told, sound)

    whole : OnOk c.lay.result (IsWholePage c.args.place.page s)
    whole = subst (λ (t : State). OnOk c.lay.result (IsWholePage c.args.place.page t)) (c.in-Ok.ensures.leaves.logs told sound).now (c.lay.ensures.whole told sound)

    module _ (database : IsDatabaseState s) (e : ℕ) (among : IsAmong c.args.place (slot_places (area_in s) e)) where
      made : IsSlotOf s.counted ((area_in s).title e).columns slot
      made = subst (λ (cs : List Column). IsSlotOf s.counted cs slot) (c.a_place_of_a_table_fits.ensures.rows s e c.args.place database among).2 there.made

      width : slot_width slot ≡ width_in (area_in s) e
      width = c.a_slot_is_put_at_its_place.ensures.width s e slot made

      site : (x : ℕ) (passes : ℕ → Bool) → OnOk c.lay.result (site_of c.lay.new.store.now ≡ site_after x (Trims passes e c.args.place (trimming_by c.args.way)) (site_of s))
      site x passes =
          let at = c.args.place in
          let way = trimming_by c.args.way in
          let left = slot_left c.args.way slot in
          let o = laid_on_place at (slot_size (slot_width slot)) (slot_bytes (slot_width slot) left) in
          let fits = c.a_place_of_a_table_fits.ensures.rows s e at database among in
          let wide : slot_width slot ≡ width_on (pages_in s) at.page = width ∙ sym fits.1 in
          let said : slot_said (columns_on (pages_in s) at.page) left ≡ trimmed_slot way ((area_in s).slot at) =
          left_said (columns_on (pages_in s) at.page) c.args.way slot ∙ ap (trimmed_slot way) there.said in
          both_ok c.lay.result (Logs (r ∷ []) c.args.store.now c.lay.new.store) (IsWholePage at.page s) (site_of c.lay.new.store.now ≡ site_after x (Trims passes e at way) (site_of s))
          (λ logs page.
          ap site_of logs.now
          ∙ c.a_logged_record_is_its_action.ensures.leaves x (Trims passes e at way) s o refl
          (c.a_slot_is_laid.ensures s r at left page (fits.0 page) (subst (λ w. IsSlot w left) wide (left_fits c.args.way slot (slot_width slot) c.in-Ok.ensures.laid.fits))
          (ap (λ w. Some (laid_on_place at (slot_size w) (slot_bytes w left))) wide)
          ∙ ap (λ (z : Slot). with_slot at z (area_in s)) said))
          (one.logs told sound) whole

      acts : (x : ℕ) (passes : ℕ → Bool) → OwedByTrim passes s.tables (area_in s) e c.args.place (trimming_by c.args.way)
          → OnOk c.lay.result (ActsBy x (Trims passes e c.args.place (trimming_by c.args.way)) s c.lay.new.store.now)
      acts x passes owed =
          let at = c.args.place in
          let way = trimming_by c.args.way in
          let left = slot_left c.args.way slot in
          three_ok c.lay.result
          (λ logs page is.
          c.a_record_acts.ensures x (Trims passes e at way) r c.args.store.now c.lay.new.store logs owed is
          (c.owed_slots_are_laid_as_their_actions.ensures.trims s r passes e at way left database owed
          (record { made = left_made c.args.way s.counted ((area_in s).title e).columns slot made; whole = page; lays = ap (λ w. Some (laid_on_place at (slot_size w) (slot_bytes w left))) width })))
          (one.logs told sound) whole (site x passes)

pub returns-in-Ok-clause-one : goal.returns-in-Ok-clause-one
returns-in-Ok-clause-one g c = trims g.O.Origin.first g.D.Disk c.args.place c.args.store.now c.lay.new.store c.args.way (slot g c) c.lay.result (one g c) (there g c)

pub returns-in-Ok-clause-leaves : goal.returns-in-Ok-clause-leaves
returns-in-Ok-clause-leaves g c = λ x e passes told sound database among. site g c told sound database e among x passes

pub returns-in-Ok-clause-acts : goal.returns-in-Ok-clause-acts
returns-in-Ok-clause-acts g c = λ x e passes told sound database owed. acts g c told sound database e owed.used.0 x passes owed
