use Rattle.std.proofs.Common.{◌≡◌, [], ◌∷◌, length, Some, refl, sym, ap, ◌∙◌, subst}
use Rattle.ctr_rec.specs.declared.record.Record.{Record}
use Rattle.ctr_rec.specs.declared.record.Record.TheVariants.{Keep}
use Rattle.ctr_passed.specs.redo_States.{State, page_at}
use Rattle.ctr_page.specs.Places.{kept_size}
use Rattle.ctr_page.specs.Making.{kept_bytes, IsEntry}
use Rattle.ctr_passed.specs.area_Areas.{Area}
use Rattle.ctr_passed.specs.area_Changes.{with_older}
use Rattle.ctr_passed.specs.record_effects_States.{area_in}
use Rattle.ctr_walk.specs.record_effects_Changing.{laid_on_place}
use Rattle.ctr_passed.specs.actions_Sites.{Site, site_of}
use Rattle.ctr_passed.specs.actions_Actions.{Keeps, site_after}
use Rattle.ctr_walk.specs.store_Store.{Logs}
use Rattle.ctr_walk.proofs.Records.{both_ok}
use Rattle.ctr_passed.specs.record_laws_Owed.{OwedByKeep, IsSpareCopy}
use Rattle.ctr_pvs.specs.Showing.{older_laid, KeepsVersion}
use Rattle.ctr_pvs.proofs.OneRecord.{entry_laid}
use Rattle.ctr_walk.proofs.Limits.{below_limit}
use Rattle.ctr_pvs.proofs.Showing.{shows_by}
use Rattle.ctr_pvs.proofs.writing.keep.Goals as goal

pub log_on_page-requires-clause-there : goal.log_on_page-requires-clause-there
log_on_page-requires-clause-there g c = below_limit c.args.place.page c.args.store.now.now.counted c.requires.counted c.counts_pages.ensures.1

pub returns-clause-leaves : goal.returns-clause-leaves
returns-clause-leaves g c = λ told sound e place.
    let at = c.args.place in
    let entry = c.args.version.now in
    let s = c.args.store.now.now in
    let r : Record = Keep c.args.x c.over_place.result in
    let size = c.kept_size.ensures.value ∙ ap (λ l. kept_size (length l)) c.as_slice-w.ensures in
    let bytes = entry_laid entry c.as_slice-w.result.now c.make_version-size.result c.make_version-size.new.into _ c.as_slice-w.ensures c.requires.lies.is c.make_version-size.ensures.number c.make_version-size.ensures.bytes in
    let laid = c.over_place.ensures ∙ (λ i. laid_on_place at (size i) (bytes i)) in
    both_ok c.log_on_page.result (Logs (r ∷ []) c.args.store.now c.log_on_page.new.store) (length (page_at at.page s.pages) ≡ 4096)
    (site_of c.log_on_page.new.store.now ≡ site_after c.args.x (Keeps e at (older_laid s at entry)) (site_of s))
    (λ logs whole. ap site_of logs.now
    ∙ c.a_logged_record_is_its_action.ensures.leaves c.args.x (Keeps e at (older_laid s at entry)) s c.over_place.result refl
    (c.a_version_is_laid.ensures s r at entry whole place.0 (subst (λ w. IsEntry w entry) (sym place.1) c.requires.lies.is)
    (ap Some laid ∙ sym (ap (λ w. Some (laid_on_place at (kept_size w) (kept_bytes entry))) place.1))))
    (c.log_on_page.ensures.one.logs told sound) (c.log_on_page.ensures.whole told sound)

pub returns-clause-shows : goal.returns-clause-shows
unfolding returns-clause-leaves
returns-clause-shows g c = λ told sound e may.
    let at = c.args.place in
    let entry = c.args.version.now in
    let s = c.args.store.now.now in
    let t = c.log_on_page.new.store.now in
    let r : Record = Keep c.args.x c.over_place.result in
    let older = older_laid s at entry in
    let law = c.a_keep_shows_the_same.ensures in
    both_ok c.log_on_page.result (Logs (r ∷ []) c.args.store.now c.log_on_page.new.store) (site_of t ≡ site_after c.args.x (Keeps e at older) (site_of s)) (KeepsVersion e at entry s t)
    (λ logs left.
    let is : area_in t ≡ with_older at older (area_in s) = ap (λ (z : Site). z.area) left in
    record {
      shows = shows_by s t (with_older at older (area_in s)) is (ap (λ (x : State). x.counted) logs.now) (ap (λ (x : State). x.tables) logs.now)
          (λ committed. law.versions s.counted s.tables (area_in s) e at older committed may.sound may.owed)
          (λ committed. law.rows s.counted s.tables (area_in s) e at older committed may.sound may.owed)
          (law.sound s.counted s.tables (area_in s) e at older may.sound may.owed);
      spare = λ slot version copy.
          subst (λ (area : Area). IsSpareCopy area e slot version at) (sym (is ∙ ap (λ o. with_older at o (area_in s)) copy))
          (c.a_kept_version_is_spare.ensures s.counted s.tables (area_in s) e at slot version may.sound (subst (OwedByKeep s.tables (area_in s) e at) copy may.owed));
    })
    (c.log_on_page.ensures.one.logs told sound) (returns-clause-leaves g c told sound e may.place)
