use Rattle.std.proofs.Common.{Ok, Err, refl}
use Rattle.std.specs.Prelude.{IsTrue}
use Rattle.std.proofs.lemmas.Result.{err_from_is_err_and}
use Rattle.ctr_page.specs.Reading.{slot_at}
use Rattle.ctr_passed.specs.area_Reading.{columns_on}
use Rattle.ctr_passed.specs.Logged.{IsSlotOf}
use Rattle.ctr_walk.specs.base_Base.{IsSoundImage}
use Rattle.ctr_passed.specs.record_effects_States.{pages_in}
use Rattle.ctr_walk.specs.Damage.{damage_told}
use Rattle.ctr_walk.proofs.Damages.{told_ends, told_ok, reads_err}
use Rattle.ctr_pvs.specs.declared.slot.LentSlot.{LentSlot}
use Rattle.ctr_pvs.specs.Reading.{row_check_at}
use Rattle.ctr_pvs.specs.Slots.{SlotLiesAt, PassesRowAt, EndsRowAt, SlotSaidAt}
use Rattle.ctr_pvs.proofs.Freeing.{told_as}
use Rattle.ctr_pvs.proofs.LentSlots.{lies_still, finds, made, lends}
use Rattle.ctr_pvs.proofs.slot.row.Goals as goal

pub returns-in_err-w : goal.returns-in_err-w
returns-in_err-w g c =
    let p = err_from_is_err_and c.from_residual.result c.from_residual.ensures.1 in
    let s = c.args.store.now.now in
    let at = c.args.place in
    let e = c.in_err-w.field-0.0 in
    let found = c.row_width_at-found in
    let check = row_check_at s.counted (pages_in s) at in
    rw (p.1, p.2) (
      (
        refl,
        (λ _. tt),
        record {
          ends = λ told sound.
              told_as (damage_told g.D.Disk c.tell.new.store) (EndsRowAt check (pages_in s) at) (SlotSaidAt s.counted (pages_in s) at) e (λ bad is. is)
              (told_ends (damage_told g.D.Disk c.tell.new.store) (EndsRowAt check (pages_in s) at) found.result (Err e) c.in_err-w.ensures.told (told, sound) (found.ensures.leaves.refused told sound) (found.ensures.ends told sound));
          leaves = reads_err g.O.Origin.first g.D.Disk _ LentSlot e c.args.store.now c.tell.new.store (c.in_err-w.ensures.leaves c.args.store.now found.ensures.leaves);
        },
      ),
      record { finds = λ told sound. tt; fits = tt; lies = tt; made = λ told sound. tt; after = tt },
    )

pub returns : goal.returns
returns g c =
    let a = c.args.store.now in
    let b = c.tell.new.store in
    let s = a.now in
    let at = c.args.place in
    let w = c.in_ok-w.w in
    let found = c.row_width_at-found in
    let check = row_check_at s.counted (pages_in s) at in
    let one = c.in_ok-w.ensures.leaves a found.ensures.leaves in
    let passes : IsTrue g.D.Disk.tells → IsSoundImage g.O.Origin.first → PassesRowAt check (pages_in s) at w = λ told sound.
    told_ends (damage_told g.D.Disk b) (EndsRowAt check (pages_in s) at) found.result (Ok w) c.in_ok-w.ensures.told (told, sound) (found.ensures.leaves.refused told sound) (found.ensures.ends told sound) in (
      (refl, (λ _. tt), lends g.O.Origin.first g.D.Disk at a b w one passes c.lend_row.follows.lender-at-none c.lend_row.result c.lend_row.follows.holds-at-none c.lend_row.ensures.said),
      record {
        finds = λ told sound. finds g.O.Origin.first g.D.Disk at a b w one passes c.lend_row.result told sound (c.lend_row.ensures.said told sound);
        fits = c.lend_row.ensures.fits;
        lies = lies_still at w c.lend_row.result (told_ok (IsTrue g.D.Disk.tells × IsSoundImage g.O.Origin.first) (damage_told g.D.Disk b) (SlotLiesAt at) found.result (Ok w) c.in_ok-w.ensures.told found.ensures.fits) c.lend_row.ensures.wide;
        made = λ told sound.
            let columns = columns_on (pages_in s) at.page in
            made g.O.Origin.first g.D.Disk at a b w one passes columns c.lend_row.result told sound
            (told_ok (IsTrue g.D.Disk.tells × IsSoundImage g.O.Origin.first) (damage_told g.D.Disk b) (λ v. IsSlotOf s.counted columns (slot_at v at.slot (pages_in s at.page))) found.result (Ok w) c.in_ok-w.ensures.told (found.ensures.made told sound))
            (c.lend_row.ensures.said told sound);
        after = tt;
      },
    )
