use Rattle.std.proofs.Common.{◌≡◌, ℕ, ◌+◌, ◌/◌, ◌<◌, [], ◌∷◌, length, Option, None, Some, refl, sym, ap, ◌∙◌, subst, arith}
use Rattle.std.specs.Prelude.{IfSome}
use Rattle.ctr_rec.specs.declared.record.Overlay.{Overlay}
use Rattle.ctr_rec.specs.declared.record.Record.{Record}
use Rattle.ctr_rec.specs.declared.record.Record.TheVariants.{Link}
use Rattle.ctr_passed.specs.redo_States.{step, page_at}
use Rattle.ctr_bytes.specs.Fields.{spelled}
use Rattle.ctr_passed.specs.record_effects_States.{pages_in}
use Rattle.ctr_walk.specs.record_effects_Changing.{laid_in_entry}
use Rattle.ctr_passed.specs.actions_Sites.{site_of}
use Rattle.ctr_passed.specs.actions_Actions.{Links, LinksOlder, site_after}
use Rattle.ctr_walk.specs.store_Store.{MayLog, Logs}
use Rattle.ctr_walk.specs.OneRecord.{LogsOne}
use Rattle.ctr_walk.proofs.Records.{both_ok}
use Rattle.ctr_heap.specs.Writing.{front_place, front_record, front_action, HasTableParts}
use Rattle.ctr_walk.proofs.Limits.{catalog_in_limit}
use Rattle.ctr_heap.proofs.OneRecord.{front_is, front_may}
use Rattle.ctr_heap.proofs.writing.link.Goals as goal

pub log_on_page-requires-clause-may : goal.log_on_page-requires-clause-may
log_on_page-requires-clause-may g c =
    let x = c.args.x in
    let p = c.args.p in
    let e = c.args.entry in
    let laid = c.over_entry.ensures ∙ (λ i. laid_in_entry e (c.front_at.ensures.place i) (c.number_made-bytes.ensures i)) in
    subst (λ (r : Record). MayLog r c.args.store.now) (sym (ap (λ (o : Overlay). Link x p o) laid ∙ front_is x p e c.args.bucket))
    (front_may c.args.store.now x c.ranges.x.fits p e c.args.bucket c.requires.small c.requires.entry c.counts_pages.ensures.0 c.requires.bucket c.requires.room)

pub returns-clause-one : goal.returns-clause-one
returns-clause-one g c =
    let x = c.args.x in
    let p = c.args.p in
    let e = c.args.entry in
    let laid = c.over_entry.ensures ∙ (λ i. laid_in_entry e (c.front_at.ensures.place i) (c.number_made-bytes.ensures i)) in
    subst (λ (r : Record). LogsOne g.O.Origin.first g.D.Disk r c.args.store.now c.log_on_page.new.store c.log_on_page.result)
    (ap (λ (o : Overlay). Link x p o) laid ∙ front_is x p e c.args.bucket) c.log_on_page.ensures.one

pub log_on_page-requires-clause-there : goal.log_on_page-requires-clause-there
log_on_page-requires-clause-there g c = catalog_in_limit c.args.entry c.requires.entry

pub returns-clause-leaves : goal.returns-clause-leaves
unfolding returns-clause-one
returns-clause-leaves g c = λ told sound table.
    let x = c.args.x in
    let p = c.args.p in
    let e = c.args.entry in
    let s = c.args.store.now.now in
    both_ok c.log_on_page.result (Logs (front_record x p e c.args.bucket ∷ []) c.args.store.now c.log_on_page.new.store) (length (page_at (1 + e / 16) s.pages) ≡ 4096)
    (site_of c.log_on_page.new.store.now ≡ site_after x (front_action p e c.args.bucket) (site_of s))
    (λ logs whole. ap site_of logs.now ∙ front c.args.bucket c.requires.bucket table whole)
    ((returns-clause-one g c).logs told sound) (c.log_on_page.ensures.whole told sound)
  where
    front : (bucket : Option ℕ) → IfSome bucket (λ b. b < 8) → HasTableParts (pages_in c.args.store.now.now) c.args.entry → length (page_at (1 + c.args.entry / 16) c.args.store.now.now.pages) ≡ 4096
        → site_of (step (front_record c.args.x c.args.p c.args.entry bucket) c.args.store.now.now) ≡ site_after c.args.x (front_action c.args.p c.args.entry bucket) (site_of c.args.store.now.now)
    front (Some b) few table whole =
        c.a_logged_record_is_its_action.ensures.leaves c.args.x (Links c.args.p c.args.entry b) c.args.store.now.now (laid_in_entry c.args.entry (front_place (Some b)) (spelled 4 c.args.p)) refl
        (c.a_link_changes_its_chain.ensures.bucket c.args.store.now.now c.args.x c.args.p c.args.entry b whole c.requires.entry few (omega (arith, c.requires.small)) table.0 table.1)
    front None few table whole =
        c.a_logged_record_is_its_action.ensures.leaves c.args.x (LinksOlder c.args.p c.args.entry) c.args.store.now.now (laid_in_entry c.args.entry (front_place None) (spelled 4 c.args.p)) refl
        (c.a_link_changes_its_chain.ensures.versions c.args.store.now.now c.args.x c.args.p c.args.entry whole c.requires.entry (omega (arith, c.requires.small)) table.0 table.1)
