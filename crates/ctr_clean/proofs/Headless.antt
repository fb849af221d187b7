-- A slot that loses its head is well made, where what stands behind the head was read.
use Rattle.std.proofs.Common.{◌≡◌, ⊎_elim, ℕ, ℤ, ◌+◌, ◌<◌, ◌≤◌, cond, Bool, true, false, List, [], ◌∷◌, length, Option, None, Some, refl, sym, ◌∙◌, ap, subst, arith}
use Rattle.std.specs.Prelude.{IfSome, is_some, ◌==◌}
use Rattle.std.specs.Option.{option_map}
use Rattle.std.proofs.lemmas.Bool.{eq-eqb, eqb-true, false≢true, cases_eq}
use Rattle.ctr_actions.proofs.versions_Keys.{known}
use Rattle.ctr_types.specs.declared.value.Column.{Column}
use Rattle.ctr_types.specs.declared.value.Kind.{Kind}
use Rattle.ctr_pvs.specs.redo_States.{State}
use Rattle.ctr_page.specs.declared.rows.Place.{Place}
use Rattle.ctr_page.specs.declared.rows.Version.{Version}
use Rattle.ctr_page.specs.declared.rows.RowSlot.{RowSlot}
use Rattle.ctr_page.specs.declared.rows.VersionEntry.{VersionEntry}
use Rattle.ctr_page.specs.Places.{slot_size, kept_size, room_for}
use Rattle.ctr_page.specs.Columns.{kinds_of, kinds_width, slot_start, kept_start}
use Rattle.ctr_page.specs.Reading.{slot_at, older_at}
use Rattle.ctr_page.specs.Making.{IsSlot}
use Rattle.ctr_page.proofs.Searches.{lies_on_page}
use Rattle.ctr_area.specs.Areas.{RowVersion, Slot, free_slot}
use Rattle.ctr_area.specs.Reading.{version_said, slot_said}
use Rattle.ctr_area.specs.Chains.{slot_places, older_places}
use Rattle.ctr_area.specs.Checked.{SlotPasses, OlderPasses}
use Rattle.ctr_area.specs.Sound.{IsAmong}
use Rattle.ctr_meta.specs.Tables.{is_in}
use Rattle.ctr_record_laws.specs.Owed.{Reverting, ToPrevious, ToKept, ToNothing, FitsReverting, OwedByRevert}
use Rattle.ctr_area.proofs.Buckets.{each_of}
use Rattle.ctr_record_effects.specs.States.{pages_in, area_in}
use Rattle.ctr_record_effects.specs.Standing.{IsDatabaseState}
use Rattle.ctr_dead.specs.passed_Logged.{IsVersionOf, IsSlotOf, IsOlderOf}
use Rattle.ctr_pvs.proofs.Made.{slot_made, older_made}
use Rattle.ctr_revert.specs.Reverting.{blank_slot, if_used, entry_at_place, slot_by_entry, slot_without_head, slot_reverted}
use Rattle.ctr_clean.specs.Heads.{IsPageOfBytes, HaveRoom, LeadsFrom}
use Rattle.ctr_clean.proofs.OnPage.{slot_fits, entry_fits}

-- a payload that is a row's of one key is one of any other
of_key : (cs : List Column) (k l : ℤ) (v u : Version) → IsVersionOf cs k v → IsVersionOf cs l u → IsVersionOf cs l v
of_key [] k l v u is other = absurd is.1.0.0
of_key (c ∷ cs) k l v u is other = (is.0, ((is.1.0.0, (other.1.0.1.0, is.1.0.1.1)), refl, is.1.2))

-- a used slot is said by its own bytes
abbrev pub said_so : List Column → RowSlot → Slot
said_so cs l = record { used = true; key = l.key; head = version_said cs l.key l.head; previous = option_map (version_said cs l.key) l.previous; pointer = l.older }

pub is_said_so : (c d : Bool) (there : Slot) → (cond c (cond d there free_slot) free_slot).used ≡ true → (d ≡ true) × ((cond c (cond d there free_slot) free_slot) ≡ there)
is_said_so true true there used = (refl, refl)
is_said_so true false there used = absurd (false≢true used)
is_said_so false d there used = absurd (false≢true used)

-- a slot that is lent leads where it is said to
pub leads_from : (counted n : ℕ) (cs : List Column) (l : RowSlot) (slot : Slot) → slot_said cs l ≡ slot → IsSlotOf counted cs l → IsSlot n l → n ≤ 2048 → LeadsFrom cs slot l.older
leads_from counted n cs l slot said made is small used =
    let so = is_said_so true (l.used == 1) (said_so cs l) (ap (λ (x : Slot). x.used) said ∙ used) in
    let row = (made.rows (eqb-true l.used 1 so.0)).0 in
    (sym (ap (λ (x : Slot). x.pointer) said) ∙ ap (λ (x : Slot). x.pointer) so.1, (row.1.0.0, subst (λ m. m ≤ 2048) (sym is.head.2 ∙ made.is.head.2) small))

module _ (s : State) (e : ℕ) (database : IsDatabaseState s) (room : HaveRoom ((area_in s).title e).columns) (some : 0 < s.counted) where
  abbrev cs : List Column
  cs = ((area_in s).title e).columns

  abbrev kinds : List Kind
  kinds = kinds_of cs

  abbrev wide : ℕ
  wide = kinds_width kinds

  -- a slot and a version entry of the table
  pub slot_there : (at : Place) → IsAmong at (slot_places (area_in s) e) → at.slot < room_for (slot_size wide) → IsPageOfBytes at.page s → IsSlotOf s.counted cs (slot_at wide at.slot (pages_in s at.page))
  slot_there at in_ lies page =
      let inside : slot_start kinds at.slot + slot_size wide ≤ length (pages_in s at.page) = subst (λ l. slot_start kinds at.slot + slot_size wide ≤ l) (sym page.0) (lies_on_page (slot_size wide) at.slot lies) in
      slot_made cs room.0 s.counted at.slot some room.1 (pages_in s at.page) page.1 inside
      (slot_fits (pages_in s at.page) page.1 (slot_start kinds at.slot) (slot_size wide) inside wide (omega arith))
      (each_of (SlotPasses s.counted (pages_in s) e) at (slot_places (area_in s) e) (database.passed.slots e) in_)

  pub older_there : (q : Place) → IsAmong q (older_places (area_in s) e) → q.slot < room_for (kept_size wide) → IsPageOfBytes q.page s → IsOlderOf s.counted cs (older_at wide q.slot (pages_in s q.page))
  older_there q in_ lies page =
      let inside : kept_start kinds q.slot + kept_size wide ≤ length (pages_in s q.page) = subst (λ l. kept_start kinds q.slot + kept_size wide ≤ l) (sym page.0) (lies_on_page (kept_size wide) q.slot lies) in
      older_made cs room.0 s.counted q.slot some room.1 (pages_in s q.page) page.1 inside
      (entry_fits (pages_in s q.page) page.1 (kept_start kinds q.slot) (kept_size wide) inside wide (omega arith))
      (each_of (OlderPasses s.counted (pages_in s) e) q (older_places (area_in s) e) (database.passed.older e) in_)

  -- a slot of the table without its head, by the version entry behind it, where it leads to one
  module _ (slot : RowSlot) (used : slot.used ≡ 1) (made : IsSlotOf s.counted cs slot) (kept : (slot.older.page ≡ 0 → ⊥) → IsOlderOf s.counted cs (older_at wide slot.older.slot (pages_in s slot.older.page))) where
    abbrev entry : VersionEntry
    entry = older_at wide slot.older.slot (pages_in s slot.older.page)

    by_blank : IsSlot wide (blank_slot wide) → IsSlotOf s.counted cs (blank_slot wide)
    by_blank fits = record { is = fits; state = omega arith; rows = λ used. absurd (cc used); leads = λ used some. absurd (some refl) }

    by_entry : (b : Bool) → (entry.used == 1) ≡ b → IsOlderOf s.counted cs entry → IsSlot wide (slot_by_entry wide slot (cond b (Some entry) None)) → IsSlotOf s.counted cs (slot_by_entry wide slot (cond b (Some entry) None))
    by_entry true is older fits =
        let one = eqb-true entry.used 1 is in
        record {
          is = fits;
          state = made.state;
          rows = λ used. (of_key cs entry.key slot.key entry.version slot.head (older.row one) (made.rows used).0, tt);
          leads = λ used. older.leads one;
        }
    by_entry false is older fits = by_blank fits

    without : (v : Option Version) → IfSome v (λ u. IsVersionOf cs slot.key u) → IsSlot wide (slot_without_head wide slot (entry_at_place wide (pages_in s) slot.older) v)
        → IsSlotOf s.counted cs (slot_without_head wide slot (entry_at_place wide (pages_in s) slot.older) v)
    without (Some v) row fits = record { is = fits; state = made.state; rows = λ used. (row, tt); leads = made.leads }
    without None row fits = known (slot.older.page == 0)
        (λ none. subst (λ b. IsSlotOf s.counted cs (slot_by_entry wide slot (cond b None (if_used entry)))) (sym none)
        (by_blank (subst (λ b. IsSlot wide (slot_by_entry wide slot (cond b None (if_used entry)))) none fits)))
        (λ more. subst (λ b. IsSlotOf s.counted cs (slot_by_entry wide slot (cond b None (if_used entry)))) (sym more)
        (by_entry (entry.used == 1) refl (kept (λ none. false≢true (sym more ∙ eq-eqb slot.older.page 0 none))) (subst (λ b. IsSlot wide (slot_by_entry wide slot (cond b None (if_used entry)))) more fits)))

    pub headless : IsSlot wide (slot_reverted wide (pages_in s) slot) → IsSlotOf s.counted cs (slot_reverted wide (pages_in s) slot)
    headless = without slot.previous (made.rows used).1

-- ---- the way that fits

way_by : (old : Slot) (previous : Option RowVersion) → old.previous ≡ previous → (way : Reverting) × FitsReverting way old
way_by old (Some v) is = (ToPrevious, ap is_some is)
way_by old None is = ⊎_elim
    (λ none. (ToNothing, (is, none)))
    (λ some. (ToKept, (is, some)))
    (cases_eq old.pointer.page 0)

-- what is owed where the head of a used slot is by a transaction that is rolled back
pub owed_to_go : (s : State) (e : ℕ) (at : Place) → IsAmong at (slot_places (area_in s) e) → ((area_in s).slot at).used ≡ true → is_in ((area_in s).slot at).head.0 s.tables.aborted ≡ true
    → (way : Reverting) × OwedByRevert s.tables (area_in s) e at way
owed_to_go s e at among used gone =
    let old = (area_in s).slot at in
    let way = way_by old old.previous refl in
    (way.0, record { used = (among, used); gone = gone; fits = way.1 })
