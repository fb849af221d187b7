-- What stands behind a used slot is read without damage, so its head can be taken.
use Rattle.std.proofs.Common.{◌≡◌, ⊎_elim, ℕ, Bool, true, false, cond, List, Option, None, Some, Ok, refl, sym, ◌∙◌, ap, subst}
use Rattle.std.proofs.lemmas.Bool.{false≢true, eq-eqb}
use Rattle.std.specs.Prelude.{◌==◌}
use Rattle.std.specs.Option.{option_map}
use Rattle.ctr_types.specs.declared.value.Column.{Column}
use Rattle.ctr_revert.proofs.versions_Keys.{known}
use Rattle.ctr_page.specs.declared.rows.Place.{Place}
use Rattle.ctr_page.specs.declared.rows.Version.{Version}
use Rattle.ctr_page.specs.declared.rows.RowSlot.{RowSlot}
use Rattle.ctr_meta.specs.Tables.{Tables}
use Rattle.ctr_heap.specs.area_Areas.{Slot, free_slot, Area}
use Rattle.ctr_heap.specs.area_Chains.{older_bound, Leads}
use Rattle.ctr_heap.specs.area_Checked.{ArePassed}
use Rattle.ctr_heap.specs.area_Reading.{version_said, header_on, columns_on, area_of}
use Rattle.ctr_heap.specs.area_Sound.{IsUsedSlot, IsKeptFor, IsSoundArea}
use Rattle.ctr_heap.proofs.record_laws_Room.{bound_suc}
use Rattle.ctr_chain.specs.ctr_pvs.Table.{told_of, owner_of}
use Rattle.ctr_chain.specs.ctr_pvs.Reading.{kept_at_check, row_check_at}
use Rattle.ctr_revert.specs.Reverting.{behind_check, row_slot_at, revert_check}
use Rattle.ctr_undamaged.proofs.There.{both_pass, names_entry, slot_page, kept_passes, row_passes}

-- a used slot has the pointer of its bytes
used_points : (c d : Bool) (there : Slot) → (cond c (cond d there free_slot) free_slot).used ≡ true → there.pointer ≡ (cond c (cond d there free_slot) free_slot).pointer
used_points true true there used = refl
used_points true false there used = absurd (false≢true used)
used_points false d there used = absurd (false≢true used)

module _ (counted : ℕ) (tables : Tables) (pages : ℕ → List ℕ) (passed : ArePassed counted pages) (sound : IsSoundArea counted tables (area_of pages)) (e : ℕ) (at : Place) (used : IsUsedSlot (area_of pages) e at) where
  abbrev area : Area
  area = area_of pages

  abbrev row : RowSlot
  row = row_slot_at pages at

  points : row.older ≡ (area.slot at).pointer
  points = used_points ((header_on pages at.page).kind == 1) (row.used == 1) (there (columns_on pages at.page) row) used.1
    where
      there : List Column → RowSlot → Slot
      there cs s = record { used = true; key = s.key; head = version_said cs s.key s.head; previous = option_map (version_said cs s.key) s.previous; pointer = s.older }

  behind_passes : (previous : Option Version) (q : Place) → q ≡ (area.slot at).pointer → behind_check counted pages e previous q ≡ Ok tt
  behind_passes (Some v) q is = refl
  behind_passes None q is = known (q.page == 0)
      (λ none. ap (λ b. cond b (Ok tt) (told_of q.page (kept_at_check counted pages e q))) none)
      (λ some. ap (λ b. cond b (Ok tt) (told_of q.page (kept_at_check counted pages e q))) some ∙ ap (told_of q.page) (by some))
    where
      by : (q.page == 0) ≡ false → kept_at_check counted pages e q ≡ Ok tt
      by some =
          let lead : Leads older_bound area.older (IsKeptFor area e (area.slot at).key) q = subst (Leads older_bound area.older (IsKeptFor area e (area.slot at).key)) (sym is) (sound.pointers.lead e at used) in
          ⊎_elim (λ none. absurd (false≢true (sym some ∙ eq-eqb q.page 0 none)))
          (λ more. kept_passes counted tables pages passed sound e q more.0.0)
          (subst (λ m. Leads m area.older (IsKeptFor area e (area.slot at).key) q) bound_suc.1 lead)

  pub revert_passes : revert_check counted pages at ≡ Ok tt
  revert_passes = both_pass (row_check_at counted pages at) (behind_check counted pages (owner_of (pages at.page)) row.previous row.older)
      (row_passes counted tables pages passed sound e at used.0)
      (ap (λ f. behind_check counted pages f row.previous row.older) (names_entry counted tables pages passed sound 1 e at.page (slot_page counted tables pages passed sound e at used.0))
      ∙ behind_passes row.previous row.older points)
