use Rattle.std.proofs.Common.{◌≡◌, ℕ, inl, [], ◌∷◌, length, true, Ok, Err, refl, sym, ◌∙◌, ap, subst}
use Rattle.std.specs.Prelude.{IsTrue, OnOk, ⊤}
use Rattle.std.proofs.lemmas.Result.{err_from_is_err_and}
use Rattle.ctr_pvs.specs.base_Base.{IsSoundImage}
use Rattle.ctr_rec.specs.declared.record.Record.TheVariants.{Revert}
use Rattle.ctr_pvs.specs.redo_States.{State, step}
use Rattle.ctr_versions.specs.Changes.{revert}
use Rattle.ctr_versions.specs.Versions.{rows_of, RowsSet}
use Rattle.ctr_meta.specs.Effects.{one_aborted_less}
use Rattle.ctr_pvs.specs.area_Areas.{Area}
use Rattle.ctr_pvs.specs.area_Images.{versions_in}
use Rattle.ctr_pvs.specs.area_Changes.{with_slot}
use Rattle.ctr_pvs.specs.area_Sound.{IsUsedSlot}
use Rattle.ctr_page.specs.Places.{slot_size}
use Rattle.ctr_pvs.specs.record_laws_Owed.{Reverting, ToKept, FitsReverting, reverted_at}
use Rattle.ctr_pvs.specs.record_laws_Loose.{IsLoose}
use Rattle.ctr_pvs.specs.store_Store.{Logs}
use Rattle.ctr_pvs.specs.record_effects_States.{pages_in, area_in}
use Rattle.ctr_pvs.specs.record_effects_Changing.{laid_on_place}
use Rattle.ctr_pvs.specs.record_effects_Standing.{HasSoundArea}
use Rattle.ctr_pvs.specs.actions_Sites.{Site, site_of}
use Rattle.ctr_pvs.specs.actions_Actions.{Reverts, site_after}
use Rattle.ctr_pvs.specs.walk_Damage.{damage_told}
use Rattle.ctr_pvs.specs.walk_OneRecord.{LogsOne}
use Rattle.ctr_pvs.proofs.walk_Damages.{told_ends, told_ok, reads_err}
use Rattle.ctr_pvs.proofs.walk_Records.{both_ok, one_behind}
use Rattle.ctr_pvs.proofs.Freeing.{told_as}
use Rattle.ctr_pvs.proofs.Showing.{sound_by}
use Rattle.ctr_revert.specs.Reverting.{without_head, KeepsKey, lost_record, bytes_laid, revert_check, PassesRow, EndsRow, LiesThere}
use Rattle.ctr_revert.specs.Taking.{slot_of, TakesHead}
use Rattle.ctr_revert.proofs.Logged.{reverts, ends_laid}
use Rattle.ctr_revert.proofs.Reverted.{row_area}
use Rattle.ctr_revert.proofs.Headless.{head_said}
use Rattle.ctr_revert.proofs.Taken.{keeps_key, same_slot}
use Rattle.ctr_revert.proofs.revert.revert_row.Given.{Over}
use Rattle.ctr_revert.proofs.revert.revert_row.Goals.{After-lay}
use Rattle.ctr_revert.proofs.revert.revert_row.Goals as goal

pub returns-in_err-laid-clause-ends : goal.returns-in_err-laid-clause-ends
returns-in_err-laid-clause-ends g c =
    let p = err_from_is_err_and c.from_residual.result c.from_residual.ensures.1 in
    let s = c.args.store.now.now in
    let at = c.args.place in
    let e = c.in_err-laid.field-0.0 in
    let found = c.search_row-found in
    rw (p.1, p.2) (λ told sound.
    inl (told_as (damage_told g.D.Disk c.tell.new.store) (EndsRow s.counted (pages_in s) at) (λ r. r ≡ revert_check s.counted (pages_in s) at) e (λ bad is. sym is)
    (told_ends (damage_told g.D.Disk c.tell.new.store) (EndsRow s.counted (pages_in s) at) found.result (Err e) c.in_err-laid.ensures.told (told, sound) (found.ensures.leaves.refused told sound) (found.ensures.ends told sound))))

pub returns-in_err-laid-clause-one : goal.returns-in_err-laid-clause-one
returns-in_err-laid-clause-one g c =
    let p = err_from_is_err_and c.from_residual.result c.from_residual.ensures.1 in
    let e = c.in_err-laid.field-0.0 in
    rw (p.1, p.2) (inl (reads_err g.O.Origin.first g.D.Disk _ ⊤ e c.args.store.now c.tell.new.store (c.in_err-laid.ensures.leaves c.args.store.now c.search_row-found.ensures.leaves)))

-- what is laid was found, and was given to the log
module _ (g : Over) (c : After-lay g) where
  passes : IsTrue g.D.Disk.tells → IsSoundImage g.O.Origin.first → PassesRow c.args.store.now.now.counted (pages_in c.args.store.now.now) c.args.place c.in_ok-laid.laid
  passes told sound =
      let s = c.args.store.now.now in
      let found = c.search_row-found in
      told_ends (damage_told g.D.Disk c.tell.new.store) (EndsRow s.counted (pages_in s) c.args.place) found.result (Ok c.in_ok-laid.laid) c.in_ok-laid.ensures.told (told, sound) (found.ensures.leaves.refused told sound) (found.ensures.ends told sound)

  one : LogsOne {T = ⊤} g.O.Origin.first g.D.Disk (lost_record c.in_ok-laid.laid.x c.args.place c.in_ok-laid.laid.w (bytes_laid c.in_ok-laid.laid)) c.args.store.now c.lay.new.store c.lay.result
  one =
      let a = c.args.store.now in
      let l = c.in_ok-laid.laid in
      one_behind g.O.Origin.first g.D.Disk (lost_record l.x c.args.place l.w (bytes_laid l)) a c.tell.new.store c.lay.new.store l (c.in_ok-laid.ensures.leaves a c.search_row-found.ensures.leaves) c.lay.result c.lay.ensures.one

pub returns-clause-ends : goal.returns-clause-ends
returns-clause-ends g c = λ told sound.
    let at = (goal.at.returns-clause-ends g c).After-lay in
    ends_laid (damage_told g.D.Disk c.lay.new.store) c.args.place c.in_ok-laid.laid c.args.store.now c.lay.new.store c.lay.result (passes g at told sound) ((one g at).refused told sound)

pub returns-clause-one : goal.returns-clause-one
returns-clause-one g c =
    let at = (goal.at.returns-clause-one g c).After-lay in
    reverts g.O.Origin.first g.D.Disk c.args.place c.in_ok-laid.laid c.args.store.now c.lay.new.store c.lay.result (one g at) (λ told sound. (passes g at told sound).head)

-- the area without the head of the row
module _ (g : Over) (c : After-lay g) where
  reverted : IsTrue g.D.Disk.tells → IsSoundImage g.O.Origin.first → KeepsKey (area_in c.args.store.now.now) c.args.place → ((area_in c.args.store.now.now).slot c.args.place).used ≡ true
      → OnOk c.lay.result (area_in c.lay.new.store.now ≡ with_slot c.args.place (without_head (area_in c.args.store.now.now).older ((area_in c.args.store.now.now).slot c.args.place)) (area_in c.args.store.now.now))
  reverted told sound keeps used =
      let a = c.args.store.now in
      let p = c.args.place in
      let l = c.in_ok-laid.laid in
      let found = c.search_row-found in
      let same = ((c.in_ok-laid.ensures.leaves a found.ensures.leaves).logs told sound).now in
      row_area g.O.Origin.first g.D.Disk a c.lay.new.store p l told sound (passes g c told sound)
      (told_ok _ (damage_told g.D.Disk c.tell.new.store) (LiesThere p.slot) found.result (Ok l) c.in_ok-laid.ensures.told found.ensures.fits)
      c.a_slot_is_laid.ensures keeps used c.lay.result (one g c)
      (subst (λ (s : State). OnOk c.lay.result (length (pages_in s p.page) ≡ 4096)) same (c.lay.ensures.whole told sound))

  -- and the site, where it is sound
  site_left : IsTrue g.D.Disk.tells → IsSoundImage g.O.Origin.first → HasSoundArea c.args.store.now.now → (x e : ℕ) (way : Reverting) → IsUsedSlot (area_in c.args.store.now.now) e c.args.place
      → FitsReverting way ((area_in c.args.store.now.now).slot c.args.place) → OnOk c.lay.result (site_of c.lay.new.store.now ≡ site_after x (Reverts e c.args.place way) (site_of c.args.store.now.now))
  site_left told sound state x e way used fits =
      let a = c.args.store.now in
      let s = a.now in
      let t = c.lay.new.store.now in
      let p = c.args.place in
      let l = c.in_ok-laid.laid in
      let o = laid_on_place p (slot_size l.w) (bytes_laid l) in
      let passed = passes g c told sound in
      let lost = ((area_in s).slot p).head.0 in
      let head : l.x ≡ lost = passed.head.head ∙ head_said s.counted (pages_in s) p passed.of_kind used.1 in
      both_ok c.lay.result (Logs (lost_record l.x p l.w (bytes_laid l) ∷ []) a c.lay.new.store) (area_in t ≡ with_slot p (without_head (area_in s).older ((area_in s).slot p)) (area_in s))
      (site_of t ≡ site_after x (Reverts e p way) (site_of s))
      (λ logs is.
      let same : t ≡ step (Revert lost o) s = logs.now ∙ ap (λ v. step (Revert v o) s) head in
      ap site_of same
      ∙ c.a_logged_record_is_its_action.ensures.leaves x (Reverts e p way) s o refl
      (sym (ap area_in same) ∙ is ∙ ap (λ z. with_slot p z (area_in s)) (same_slot s.counted s.tables (pages_in s) e p state used way fits)))
      ((one g c).logs told sound) (reverted told sound (keeps_key s.counted s.tables (pages_in s) e p state used) used.1)

pub returns-clause-reverted : goal.returns-clause-reverted
returns-clause-reverted g c = reverted g (goal.at.returns-clause-reverted g c).After-lay

pub returns-clause-leaves : goal.returns-clause-leaves
returns-clause-leaves g c = site_left g (goal.at.returns-clause-leaves g c).After-lay

pub returns-clause-takes : goal.returns-clause-takes
returns-clause-takes g c = λ told sound state e way owed.
    let k = (goal.at.returns-clause-takes g c).After-lay in
    let s = c.args.store.now.now in
    let t = c.lay.new.store.now in
    let p = c.args.place in
    let law = c.a_revert_takes_the_head.ensures in
    let bounds = c.pages_are_in_bounds.ensures (pages_in s) in
    let used = owed.used in
    both_ok c.lay.result (site_of t ≡ site_after 0 (Reverts e p way) (site_of s)) (area_in t ≡ with_slot p (without_head (area_in s).older ((area_in s).slot p)) (area_in s)) (TakesHead e p s t)
    (λ site is.
    let left : area_in t ≡ reverted_at p way (area_in s) = ap (λ (z : Site). z.area) site in
    record {
      chains = λ number committed agree.
          subst (λ (z : Area). RowsSet (versions_in committed (area_in s)) (versions_in committed z) e (slot_of s p).key (revert number (rows_of (versions_in committed (area_in s)) e (slot_of s p).key))) (sym left)
          (law.step number s.counted s.tables (area_in s) e p way committed bounds state agree owed);
      leaves = λ none some.
          let kept : area_in t ≡ reverted_at p ToKept (area_in s) = is ∙ ap (λ z. with_slot p z (area_in s)) (same_slot s.counted s.tables (pages_in s) e p state used ToKept (none, some)) in
          subst (λ (z : Area). IsLoose z e (slot_of s p).pointer ((area_in s).older (slot_of s p).pointer)) (sym kept)
          (c.a_revert_leaves_its_entry.ensures.loose s.counted s.tables (area_in s) e p state (record { used = used; gone = owed.gone; fits = (none, some) }));
      sound = sound_by t s.counted (one_aborted_less ((area_in s).slot p).head.0 s.tables) (reverted_at p way (area_in s)) left (ap (λ (z : Site). z.counted) site) (ap (λ (z : Site). z.tables) site)
          (law.sound s.counted s.tables (area_in s) e p way bounds state owed);
    })
    (site_left g k told sound state 0 e way used owed.fits) (reverted g k told sound (keeps_key s.counted s.tables (pages_in s) e p state used) used.1)
