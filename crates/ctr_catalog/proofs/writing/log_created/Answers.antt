use Rattle.std.proofs.Common.{◌≡◌, ℕ, ◌+◌, ◌*◌, ◌/◌, ◌%◌, ◌<◌, [], ◌∷◌, length, sym, ap, ◌∙◌, subst, refl, arith}
use Rattle.std.specs.Prelude.{OnOk}
use Rattle.ctr_disk.proofs.Moments.{on_ok}
use Rattle.ctr_names.specs.page_Columns.{new_entry_bytes}
use Rattle.ctr_alloc.specs.actions_Sites.{site_of}
use Rattle.ctr_alloc.specs.actions_Actions.{Creates, site_after}
use Rattle.ctr_rec.specs.declared.record.Overlay.{Overlay}
use Rattle.ctr_rec.specs.declared.record.Record.{Record}
use Rattle.ctr_rec.specs.declared.record.Record.TheVariants.{Create}
use Rattle.ctr_alloc.specs.redo_States.{page_limit, page_at}
use Rattle.ctr_names.specs.area_Areas.{Area}
use Rattle.ctr_names.specs.area_Changes.{new_title, empty_chains, ChangesEntry}
use Rattle.ctr_alloc.specs.record_effects_States.{area_in}
use Rattle.ctr_alloc.specs.record_effects_Changing.{laid_at, create_record}
use Rattle.ctr_alloc.specs.store_Store.{MayLog, Logs}
use Rattle.ctr_alloc.specs.walk_OneRecord.{LogsOne}
use Rattle.ctr_alloc.proofs.walk_Records.{both_ok}
use Rattle.ctr_alloc.proofs.walk_Limits.{catalog_in_limit}
use Rattle.ctr_catalog.proofs.OneRecord.{create_may}
use Rattle.ctr_catalog.proofs.writing.log_created.Goals as goal

pub log_on_page-requires-clause-may : goal.log_on_page-requires-clause-may
log_on_page-requires-clause-may g c =
    let e = c.args.entry in
    let laid = c.over_page.ensures ∙ (λ i. laid_at (c.catalog_page.ensures i) (256 * (e % 16)) (c.entry_made-bytes.ensures i)) in
    subst (λ (r : Record). MayLog r c.args.store.now) (sym (ap (λ (o : Overlay). Create c.args.x e o) laid))
    (create_may c.args.store.now e c.requires.there c.counts_pages.ensures.0 c.args.x c.ranges.x.fits c.args.name.now c.args.schema.now.columns c.has_room.ensures.1 c.requires.fits c.requires.room)

pub log_on_page-requires-clause-there : goal.log_on_page-requires-clause-there
log_on_page-requires-clause-there g c = subst (λ (p : ℕ). p < page_limit) (sym c.catalog_page-2.ensures) (catalog_in_limit c.args.entry c.requires.there)

pub returns-clause-one : goal.returns-clause-one
returns-clause-one g c =
    let e = c.args.entry in
    let laid = c.over_page.ensures ∙ (λ i. laid_at (c.catalog_page.ensures i) (256 * (e % 16)) (c.entry_made-bytes.ensures i)) in
    subst (λ (r : Record). LogsOne g.O.Origin.first g.D.Disk r c.args.store.now c.log_on_page.new.store c.log_on_page.result)
    (ap (λ (o : Overlay). Create c.args.x e o) laid) c.log_on_page.ensures.one

pub returns-clause-made : goal.returns-clause-made
unfolding returns-clause-one
returns-clause-made g c = λ told sound.
    let x = c.args.x in
    let e = c.args.entry in
    let name = c.args.name.now in
    let columns = c.args.schema.now.columns in
    let s = c.args.store.now.now in
    both_ok c.log_on_page.result (Logs (create_record x e name columns ∷ []) c.args.store.now c.log_on_page.new.store) (length (page_at (1 + e / 16) s.pages) ≡ 4096)
    (ChangesEntry e (new_title x name columns) empty_chains (area_in s) (area_in c.log_on_page.new.store.now))
    (λ logs whole. subst (λ (a : Area). ChangesEntry e (new_title x name columns) empty_chains (area_in s) a) (sym (ap area_in logs.now))
    (c.a_new_table_has_its_entry.ensures s x e name columns whole c.requires.there (let low = c.ranges.x.fits in omega (arith, low)) c.has_room.ensures.1 c.requires.fits))
    ((returns-clause-one g c).logs told sound)
    (subst (λ (p : ℕ). OnOk c.log_on_page.result (length (page_at p s.pages) ≡ 4096)) c.catalog_page-2.ensures (c.log_on_page.ensures.whole told sound))

pub returns-clause-leaves : goal.returns-clause-leaves
unfolding returns-clause-one
returns-clause-leaves g c = λ told sound.
    let e = c.args.entry in
    let s = c.args.store.now.now in
    let made = create_record c.args.x e c.args.name.now c.args.schema.now.columns in
    let laid = laid_at (1 + e / 16) (256 * (e % 16)) (new_entry_bytes c.args.x c.args.name.now c.args.schema.now.columns) in
    on_ok c.log_on_page.result (Logs (made ∷ []) c.args.store.now c.log_on_page.new.store)
    (site_of c.log_on_page.new.store.now ≡ site_after c.args.x (Creates e c.args.name.now c.args.schema.now.columns (area_in c.log_on_page.new.store.now)) (site_of s))
    (λ logs. ap site_of logs.now ∙ c.a_logged_record_is_its_action.ensures.leaves c.args.x (Creates e c.args.name.now c.args.schema.now.columns (area_in c.log_on_page.new.store.now)) s laid refl (sym (ap area_in logs.now)))
    ((returns-clause-one g c).logs told sound)
