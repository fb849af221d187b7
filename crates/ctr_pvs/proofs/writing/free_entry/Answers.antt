use Rattle.std.proofs.Common.{◌≡◌, ◌+◌, ◌≤◌, inl, [], ◌∷◌, Ok, Err, refl, sym, ap, ◌∙◌, subst}
use Rattle.std.specs.Prelude.{IsTrue, OnOk, ⊤}
use Rattle.std.proofs.lemmas.Result.{err_from_is_err_and}
use Rattle.ctr_walk.specs.base_Base.{IsSoundImage}
use Rattle.ctr_passed.specs.redo_States.{State}
use Rattle.ctr_page.specs.Places.{kept_size, start_of}
use Rattle.ctr_page.specs.Making.{kept_bytes}
use Rattle.ctr_passed.specs.area_Areas.{free_older}
use Rattle.ctr_passed.specs.area_Changes.{with_older}
use Rattle.ctr_walk.specs.store_Store.{Logs}
use Rattle.ctr_passed.specs.record_effects_States.{pages_in, area_in}
use Rattle.ctr_walk.specs.record_effects_Changing.{laid_on_place}
use Rattle.ctr_passed.specs.actions_Sites.{site_of}
use Rattle.ctr_passed.specs.actions_Actions.{FreesOlder, site_after}
use Rattle.ctr_walk.specs.Damage.{damage_told}
use Rattle.ctr_walk.specs.OneRecord.{LogsOne}
use Rattle.ctr_walk.proofs.Damages.{told_ends, told_ok, reads_err}
use Rattle.ctr_walk.proofs.Records.{both_ok, one_behind}
use Rattle.ctr_pvs.specs.Reading.{PassesAt, EndsAt}
use Rattle.ctr_pvs.specs.Writing.{blank_entry, blank_record, drop_check}
use Rattle.ctr_passed.specs.record_effects_Standing.{ShowsAlike}
use Rattle.ctr_pvs.proofs.Freeing.{told_as, drops, on_place}
use Rattle.ctr_pvs.proofs.Showing.{shows_by}
use Rattle.ctr_pvs.proofs.writing.free_entry.Given.{Over}
use Rattle.ctr_pvs.proofs.writing.free_entry.Goals.{After-lay_blank}
use Rattle.ctr_pvs.proofs.writing.free_entry.Goals as goal

pub returns-in_err-w-clause-ends : goal.returns-in_err-w-clause-ends
returns-in_err-w-clause-ends g c =
    let p = err_from_is_err_and c.from_residual.result c.from_residual.ensures.1 in
    let s = c.args.store.now.now in
    let at = c.args.place in
    let e = c.in_err-w.field-0.0 in
    let found = c.width_to_free-found in
    rw (p.1, p.2) (λ told sound.
    told_as (damage_told g.D.Disk c.tell.new.store) (EndsAt (drop_check s.counted (pages_in s) at) (pages_in s) at) (λ r. r ≡ drop_check s.counted (pages_in s) at) e (λ bad is. sym is)
    (told_ends (damage_told g.D.Disk c.tell.new.store) (EndsAt (drop_check s.counted (pages_in s) at) (pages_in s) at) found.result (Err e) c.in_err-w.ensures.told (told, sound) (found.ensures.leaves.refused told sound) (found.ensures.ends told sound)))

pub returns-in_err-w-clause-one : goal.returns-in_err-w-clause-one
returns-in_err-w-clause-one g c =
    let p = err_from_is_err_and c.from_residual.result c.from_residual.ensures.1 in
    let e = c.in_err-w.field-0.0 in
    rw (p.1, p.2) (inl (reads_err g.O.Origin.first g.D.Disk _ ⊤ e c.args.store.now c.tell.new.store (c.in_err-w.ensures.leaves c.args.store.now c.width_to_free-found.ensures.leaves)))

-- the width was found
module _ (g : Over) (c : After-lay_blank g) where
  passes : IsTrue g.D.Disk.tells → IsSoundImage g.O.Origin.first → PassesAt (drop_check c.args.store.now.now.counted (pages_in c.args.store.now.now) c.args.place) (pages_in c.args.store.now.now) c.args.place c.in_ok-w.w
  passes told sound =
      let s = c.args.store.now.now in
      let found = c.width_to_free-found in
      told_ends (damage_told g.D.Disk c.tell.new.store) (EndsAt (drop_check s.counted (pages_in s) c.args.place) (pages_in s) c.args.place) found.result (Ok c.in_ok-w.w) c.in_ok-w.ensures.told (told, sound) (found.ensures.leaves.refused told sound) (found.ensures.ends told sound)

  one : LogsOne {T = ⊤} g.O.Origin.first g.D.Disk (blank_record c.args.place c.in_ok-w.w) c.args.store.now c.lay_blank.new.store c.lay_blank.result
  one =
      let a = c.args.store.now in
      let w = c.in_ok-w.w in
      one_behind g.O.Origin.first g.D.Disk (blank_record c.args.place w) a c.tell.new.store c.lay_blank.new.store w (c.in_ok-w.ensures.leaves a c.width_to_free-found.ensures.leaves) c.lay_blank.result c.lay_blank.ensures.one

  freed : IsTrue g.D.Disk.tells → IsSoundImage g.O.Origin.first → OnOk c.lay_blank.result (area_in c.lay_blank.new.store.now ≡ with_older c.args.place free_older (area_in c.args.store.now.now))
  freed told sound =
      let at = c.args.place in
      let w = c.in_ok-w.w in
      let a = c.args.store.now in
      let b = c.tell.new.store in
      let found = c.width_to_free-found in
      let same : b.now ≡ a.now = ((c.in_ok-w.ensures.leaves a found.ensures.leaves).logs told sound).now in
      let fits = told_ok _ (damage_told g.D.Disk b) (λ v. (v ≤ 2048) × (start_of (kept_size v) at.slot + kept_size v ≤ 4096)) found.result (Ok w) c.in_ok-w.ensures.told found.ensures.fits in
      subst (λ (s : State). OnOk c.lay_blank.result (area_in c.lay_blank.new.store.now ≡ with_older at free_older (area_in s))) same
      (on_place c.lay_blank.result (drop_check a.now.counted (pages_in a.now) at) (pages_in b.now) at w _ (subst (λ (s : State). PassesAt (drop_check a.now.counted (pages_in a.now) at) (pages_in s) at w) (sym same) (passes told sound)) fits.0
      (c.lay_blank.ensures.freed told sound) (c.lay_blank.ensures.whole told sound))

pub returns-clause-one : goal.returns-clause-one
returns-clause-one g c =
    let at = (goal.at.returns-clause-one g c).After-lay_blank in
    drops g.O.Origin.first g.D.Disk c.args.place c.in_ok-w.w c.args.store.now c.lay_blank.new.store c.lay_blank.result (one g at) (λ told sound. (passes g at told sound).wide)

pub returns-clause-leaves : goal.returns-clause-leaves
returns-clause-leaves g c = λ x e told sound.
    let k = (goal.at.returns-clause-leaves g c).After-lay_blank in
    let at = c.args.place in
    let w = c.in_ok-w.w in
    let s = c.args.store.now.now in
    let t = c.lay_blank.new.store.now in
    both_ok c.lay_blank.result (Logs (blank_record at w ∷ []) c.args.store.now c.lay_blank.new.store) (area_in t ≡ with_older at free_older (area_in s)) (site_of t ≡ site_after x (FreesOlder e at) (site_of s))
    (λ logs is. ap site_of logs.now ∙ c.a_logged_record_is_its_action.ensures.leaves x (FreesOlder e at) s (laid_on_place at (kept_size w) (kept_bytes (blank_entry w))) refl (sym (ap area_in logs.now) ∙ is))
    ((one g k).logs told sound) (freed g k told sound)

pub returns-clause-shows : goal.returns-clause-shows
returns-clause-shows g c = λ told sound state unlinked.
    let k = (goal.at.returns-clause-shows g c).After-lay_blank in
    let at = c.args.place in
    let s = c.args.store.now.now in
    let t = c.lay_blank.new.store.now in
    let area = with_older at free_older (area_in s) in
    let law = c.a_free_entry_shows_the_same.ensures in
    both_ok c.lay_blank.result (Logs (blank_record at c.in_ok-w.w ∷ []) c.args.store.now c.lay_blank.new.store) (area_in t ≡ area) (ShowsAlike s t)
    (λ logs is. shows_by s t area is (ap (λ (x : State). x.counted) logs.now) (ap (λ (x : State). x.tables) logs.now)
    (λ committed. law.versions (area_in s) at committed unlinked) (λ committed. law.rows (area_in s) at committed unlinked) (law.sound s.counted s.tables (area_in s) at state unlinked))
    ((one g k).logs told sound) (freed g k told sound)
