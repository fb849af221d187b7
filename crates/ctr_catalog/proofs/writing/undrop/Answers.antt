use Rattle.std.proofs.Common.{◌≡◌, ℕ, ◌+◌, ◌/◌, ◌<◌, [], ◌∷◌, length, sym, ap, ◌∙◌, subst, refl}
use Rattle.std.specs.Prelude.{OnOk}
use Rattle.ctr_bytes.specs.Fields.{spelled}
use Rattle.ctr_rec.specs.declared.record.Overlay.{Overlay}
use Rattle.ctr_rec.specs.declared.record.Record.{Record}
use Rattle.ctr_rec.specs.declared.record.Record.TheVariants.{Undrop}
use Rattle.ctr_alloc.specs.redo_States.{page_limit, page_at}
use Rattle.ctr_alloc.specs.record_effects_Changing.{laid_in_entry, undrop_record}
use Rattle.ctr_alloc.specs.actions_Sites.{site_of}
use Rattle.ctr_alloc.specs.actions_Actions.{Undrops, site_after}
use Rattle.ctr_alloc.specs.store_Store.{MayLog, Logs}
use Rattle.ctr_alloc.specs.walk_OneRecord.{LogsOne}
use Rattle.ctr_alloc.proofs.walk_Records.{both_ok}
use Rattle.ctr_alloc.proofs.walk_Limits.{catalog_in_limit}
use Rattle.ctr_catalog.proofs.OneRecord.{undrop_may}
use Rattle.ctr_catalog.proofs.writing.undrop.Goals as goal

pub log_on_page-requires-clause-may : goal.log_on_page-requires-clause-may
log_on_page-requires-clause-may g c =
    subst (λ (r : Record). MayLog r c.args.store.now) (sym (ap (λ (o : Overlay). Undrop c.args.entry o) (c.over_entry.ensures ∙ ap (laid_in_entry c.args.entry 9) c.number_made-bytes.ensures)))
    (undrop_may c.args.store.now c.args.entry c.requires.there c.counts_pages.ensures.0 c.requires.room)

pub log_on_page-requires-clause-there : goal.log_on_page-requires-clause-there
log_on_page-requires-clause-there g c = subst (λ (p : ℕ). p < page_limit) (sym c.catalog_page.ensures) (catalog_in_limit c.args.entry c.requires.there)

pub returns-clause-one : goal.returns-clause-one
returns-clause-one g c =
    subst (λ (r : Record). LogsOne g.O.Origin.first g.D.Disk r c.args.store.now c.log_on_page.new.store c.log_on_page.result)
    (ap (λ (o : Overlay). Undrop c.args.entry o) (c.over_entry.ensures ∙ ap (laid_in_entry c.args.entry 9) c.number_made-bytes.ensures)) c.log_on_page.ensures.one

pub returns-clause-leaves : goal.returns-clause-leaves
unfolding returns-clause-one
returns-clause-leaves g c = λ x told sound.
    let e = c.args.entry in
    let s = c.args.store.now.now in
    both_ok c.log_on_page.result (Logs (undrop_record e ∷ []) c.args.store.now c.log_on_page.new.store) (length (page_at (1 + e / 16) s.pages) ≡ 4096)
    (site_of c.log_on_page.new.store.now ≡ site_after x (Undrops e) (site_of s))
    (λ logs whole. ap site_of logs.now ∙ c.a_logged_record_is_its_action.ensures.leaves x (Undrops e) s (laid_in_entry e 9 (spelled 8 0)) refl (c.an_undrop_changes_its_title.ensures s e whole c.requires.there))
    ((returns-clause-one g c).logs told sound)
    (subst (λ (p : ℕ). OnOk c.log_on_page.result (length (page_at p s.pages) ≡ 4096)) c.catalog_page.ensures (c.log_on_page.ensures.whole told sound))
