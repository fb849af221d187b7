-- What a used slot is, as it was read, and which version of it is to be kept.
use Rattle.std.proofs.Common.{◌≡◌, ℕ, ◌==◌, inl, inr, Bool, true, false, List, Option, None, Some, Result, Ok, Err, refl, sym, ◌∙◌, ap, subst, cond}
use Rattle.std.specs.Prelude.{IfSome, IfOk}
use Rattle.std.specs.Option.{option_map}
use Rattle.std.proofs.lemmas.Bool.{eqb-true}
use Rattle.ctr_types.specs.declared.value.Column.{Column}
use Rattle.ctr_page.specs.declared.rows.RowSlot.{RowSlot}
use Rattle.ctr_page.specs.Places.{has_previous}
use Rattle.ctr_area.specs.Areas.{RowVersion, Slot, free_slot, nowhere}
use Rattle.ctr_area.specs.Reading.{slot_said, version_said, older_said}
use Rattle.ctr_extend.specs.heap_Writing.{slot_width}
use Rattle.ctr_extend.specs.heap_Ways.{IsWay, kept_version}
use Rattle.ctr_extend.specs.heap_Way.{Way}
use Rattle.ctr_extend.specs.heap_Way.TheVariants.{ReplaceHead, MoveHead, KeepPrevious, KeepHead}
use Rattle.ctr_disk.specs.declared.fault.StoreFault.{StoreFault}
use Rattle.ctr_page.specs.declared.rows.Place.{Place}
use Rattle.ctr_page.specs.declared.rows.VersionEntry.{VersionEntry}
use Rattle.ctr_area.specs.Images.{is_committed_in}
use Rattle.ctr_redo.specs.States.{State}
use Rattle.ctr_extend.specs.record_effects_States.{area_in}
use Rattle.ctr_extend.specs.record_laws_Owed.{IsSpareCopy, Writing, older_copy}
use Rattle.ctr_extend.specs.passed_Laid.{width_in}
use Rattle.ctr_extend.specs.passed_Logged.{LeadsInside}
use Rattle.ctr_write.specs.declared.stages.Written.{Written}
use Rattle.ctr_write.specs.declared.stages.Written.TheVariants.{Done}
use Rattle.ctr_write.specs.Laying.{Wish, LaysHead, IsReadyFor}
use Rattle.ctr_write.specs.Steps.{MayWriteOver, EndsKeeping, EndsOver}
use Rattle.ctr_write.specs.Stages.{IsToKeep, HasKept}
use Rattle.ctr_write.specs.Keeping.{IsOfSlot, off}

-- a used slot is said by its own bytes
abbrev said_so : (columns : List Column) (s : RowSlot) → Slot
said_so columns s = record {
  used = true;
  key = s.key;
  head = version_said columns s.key s.head;
  previous = option_map (version_said columns s.key) s.previous;
  pointer = s.older;
}

used_by : (b : Bool) (o : Slot) → (cond b o free_slot).used ≡ true → b ≡ true
used_by true o used = refl
used_by false o used = absurd cc

module _ (columns : List Column) (slot : RowSlot) (o : Slot) (said : slot_said columns slot ≡ o) (used : o.used ≡ true) where
  pub is_used : slot.used ≡ 1
  is_used = eqb-true slot.used 1 (used_by (slot.used == 1) _ (ap (λ (s : Slot). s.used) said ∙ used))

  pub key_is : slot.key ≡ o.key
  key_is = sym (ap (λ (b : Bool). (cond b (said_so columns slot) free_slot).key) (used_by (slot.used == 1) _ (ap (λ (s : Slot). s.used) said ∙ used))) ∙ ap (λ (s : Slot). s.key) said

  pub head_is : slot.head.xid ≡ o.head.0
  head_is = sym (ap (λ (b : Bool). (cond b (said_so columns slot) free_slot).head.0) (used_by (slot.used == 1) _ (ap (λ (s : Slot). s.used) said ∙ used))) ∙ ap (λ (s : Slot). s.head.0) said

-- ---- which version is kept

module _ (committed : Bool) (s : RowSlot) (slot : Slot) (w : ℕ) (wide : slot_width s ≡ w) where
  -- the version that is to be kept is one of the slot
  pub of_slot : (way : Way) (v : RowVersion) → kept_version way slot ≡ Some v → IsOfSlot slot v
  of_slot ReplaceHead v is = absurd cc
  of_slot MoveHead v is = absurd cc
  of_slot KeepPrevious v is = inr is
  of_slot KeepHead v is = inl (cc is)

  -- and it is the one that the width of the row says
  pub to_keep_is : (way : Way) (v : RowVersion) → IsWay committed s way → kept_version way slot ≡ Some v → IsToKeep w slot v
  to_keep_is ReplaceHead v fits is = absurd cc
  to_keep_is MoveHead v fits is = absurd cc
  to_keep_is KeepPrevious v fits is = (λ yes. is, λ no. let both = sym (subst (λ n. has_previous n ≡ true) wide fits.1) ∙ no in absurd cc)
  to_keep_is KeepHead v fits is = (λ yes. let both = sym (subst (λ n. has_previous n ≡ false) wide fits.1) ∙ yes in absurd cc, λ no. cc is)

  -- where it was kept, that is the version that the way wants
  pub kept_so : (way : Way) (v : RowVersion) (P : RowVersion → Type 0) → IsWay committed s way → IsToKeep w slot v → P v → IfSome (kept_version way slot) P
  kept_so ReplaceHead v P fits is holds = tt
  kept_so MoveHead v P fits is holds = tt
  kept_so KeepPrevious v P fits is holds = subst (λ (o : Option RowVersion). IfSome o P) (sym (is.0 (subst (λ n. has_previous n ≡ true) wide fits.1))) holds
  kept_so KeepHead v P fits is holds = subst P (sym (is.1 (subst (λ n. has_previous n ≡ false) wide fits.1))) holds

-- what is none of a list of one is none
pub none_of : {A B : Type 0} (f : A → B) (o : Option A) → None ≡ option_map f o → o ≡ None
none_of f None is = refl
none_of f (Some a) is = absurd cc

pub some_of : {A B : Type 0} (f : A → B) (b : B) (o : Option A) → Some b ≡ option_map f o → (a : A) × (o ≡ Some a) × (b ≡ f a)
some_of f b None is = absurd cc
some_of f b (Some a) is = (a, refl, cc is)

-- ---- what is left to show where the head is laid

module _ (wish : Wish) (at : Place) (slot : RowSlot) (kept : Option Place) (s : State) (may : MayWriteOver wish at slot kept s) where
  abbrev old : Slot
  old = (area_in s).slot at

  pub slot_used : slot.used ≡ 1
  slot_used = is_used ((area_in s).title wish.entry).columns slot old may.said may.of_key.0.1

  pub slot_key : slot.key ≡ wish.key
  slot_key = key_is ((area_in s).title wish.entry).columns slot old may.said may.of_key.0.1 ∙ may.of_key.1

  abbrev WayIs : Way → Type 0
  WayIs way = IsWay (is_committed_in s.tables slot.head.xid) slot way

  abbrev CopyOf : Place → RowVersion → Type 0
  CopyOf q v = IsSpareCopy (area_in s) wish.entry old v q

  pub ready_for : (way : Way) (q : Place) → WayIs way → IfSome (kept_version way old) (CopyOf q) → LeadsInside s.counted (width_in (area_in s) wish.entry) q → IsReadyFor wish.entry at slot way q s
  ready_for way q is copy leads = record { used = may.of_key.0; is_used = slot_used; said = may.said; made = may.made; way_is = is; kept = copy; leads = leads }

  -- where none is to be kept, no place is looked at
  pub ready_now : (way : Way) → WayIs way → kept_version way old ≡ None → IsReadyFor wish.entry at slot way nowhere s
  ready_now way is none = ready_for way nowhere is (subst (λ (o : Option RowVersion). IfSome o (CopyOf nowhere)) (sym none) tt) (λ some. absurd (some refl))

  -- the copy that was kept is one of this slot
  pub copy_is : (q : Place) (has : HasKept wish.x wish.entry wish.key q s) → CopyOf q has.version
  copy_is q has =
      let same = may.lay.sound.sound.keys.once wish.entry has.at at has.has.0 may.of_key.0 (ap (λ (o : Slot). o.key) has.has.1 ∙ has.of_key ∙ sym may.of_key.1) in
      subst (λ (b : Place). IsSpareCopy (area_in s) wish.entry ((area_in s).slot b) has.version q) same has.copy.1

  pub slot_is : (q : Place) (has : HasKept wish.x wish.entry wish.key q s) → has.slot ≡ old
  slot_is q has =
      let same = may.lay.sound.sound.keys.once wish.entry has.at at has.has.0 may.of_key.0 (ap (λ (o : Slot). o.key) has.has.1 ∙ has.of_key ∙ sym may.of_key.1) in
      sym has.has.1 ∙ ap (λ (b : Place). (area_in s).slot b) same

  pub ready_kept : (way : Way) (q : Place) (has : HasKept wish.x wish.entry wish.key q s) → WayIs way → slot_width slot ≡ width_in (area_in s) wish.entry
      → LeadsInside s.counted (width_in (area_in s) wish.entry) q → IsReadyFor wish.entry at slot way q s
  ready_kept way q has is wide leads =
      ready_for way q is
      (kept_so (is_committed_in s.tables slot.head.xid) slot old (width_in (area_in s) wish.entry) wide way has.version (CopyOf q) is
      (subst (λ (o : Slot). IsToKeep (width_in (area_in s) wish.entry) o has.version) (slot_is q has) has.is) (copy_is q has)) leads

  -- what is to be kept of the slot, as it is said
  pub kept_as : (way : Way) (entry : Option VersionEntry)
      → option_map (older_said ((area_in s).title wish.entry).columns) entry ≡ option_map (older_copy (slot_said ((area_in s).title wish.entry).columns slot)) (kept_version way (slot_said ((area_in s).title wish.entry).columns slot))
      → option_map (older_said ((area_in s).title wish.entry).columns) entry ≡ option_map (older_copy old) (kept_version way old)
  kept_as way entry copy = copy ∙ ap (λ (o : Slot). option_map (older_copy o) (kept_version way o)) may.said

  pub lays_over : (t : State) (way : Writing) (Left : Written → Type 0) (result : Result Written StoreFault) → IfOk result (λ w. (w ≡ Done) × Left w)
      → IfOk result (λ w. LaysHead wish at way s t) → IfOk result (EndsOver wish at kept s t)
  lays_over t way Left (Ok w) ends lays = inl (record { done = ends.0; way = way; lays = lays })
  lays_over t way Left (Err e) ends lays = tt

  pub keeps_one : (t : State) (v : RowVersion) (result : Result Written StoreFault) → kept ≡ None → IsToKeep (width_in (area_in s) wish.entry) old v
      → IfOk result (EndsKeeping (off wish.x wish.entry at v) s t) → IfOk result (EndsOver wish at kept s t)
  keeps_one t v (Ok w) new is ends = inr (record { new = new; version = v; is = is; ends = ends })
  keeps_one t v (Err e) new is ends = tt
