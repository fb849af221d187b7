use Rattle.std.proofs.Common.{◌≡◌, [], ◌∷◌, length, refl, sym, ap, ◌∙◌, subst}
use Rattle.ctr_rec.specs.declared.record.Overlay.{Overlay}
use Rattle.ctr_rec.specs.declared.record.Record.{Record}
use Rattle.ctr_rec.specs.declared.record.Record.TheVariants.{Format}
use Rattle.ctr_passed.specs.redo_States.{page_at}
use Rattle.ctr_page.specs.Making.{header_bytes}
use Rattle.ctr_walk.specs.record_effects_Changing.{laid_clear, format_record}
use Rattle.ctr_passed.specs.actions_Sites.{site_of}
use Rattle.ctr_passed.specs.actions_Actions.{Formats, site_after}
use Rattle.ctr_walk.specs.store_Store.{MayLog, Logs}
use Rattle.ctr_walk.specs.OneRecord.{LogsOne}
use Rattle.ctr_walk.proofs.Records.{both_ok}
use Rattle.ctr_walk.proofs.Limits.{below_limit}
use Rattle.ctr_heap.proofs.OneRecord.{format_may}
use Rattle.ctr_heap.proofs.writing.format.Goals as goal

pub log_on_page-requires-clause-may : goal.log_on_page-requires-clause-may
log_on_page-requires-clause-may g c =
    subst (λ (r : Record). MayLog r c.args.store.now) (sym (ap (λ (o : Overlay). Format c.args.x c.args.p o) (c.over_cleared.ensures ∙ ap (laid_clear c.args.p) c.header_made-bytes.ensures)))
    (format_may c.args.store.now c.args.x c.ranges.x.fits c.args.p c.args.header.now c.counts_pages.ensures.1 c.requires.counted c.requires.room)

pub log_on_page-requires-clause-there : goal.log_on_page-requires-clause-there
log_on_page-requires-clause-there g c = below_limit c.args.p c.args.store.now.now.counted c.requires.counted c.counts_pages.ensures.1

pub returns-clause-one : goal.returns-clause-one
returns-clause-one g c =
    subst (λ (r : Record). LogsOne g.O.Origin.first g.D.Disk r c.args.store.now c.log_on_page.new.store c.log_on_page.result)
    (ap (λ (o : Overlay). Format c.args.x c.args.p o) (c.over_cleared.ensures ∙ ap (laid_clear c.args.p) c.header_made-bytes.ensures)) c.log_on_page.ensures.one

pub returns-clause-leaves : goal.returns-clause-leaves
unfolding returns-clause-one
returns-clause-leaves g c = λ told sound third.
    let x = c.args.x in
    let p = c.args.p in
    let h = c.args.header.now in
    let s = c.args.store.now.now in
    both_ok c.log_on_page.result (Logs (format_record x p h ∷ []) c.args.store.now c.log_on_page.new.store) (length (page_at p s.pages) ≡ 4096)
    (site_of c.log_on_page.new.store.now ≡ site_after x (Formats p h) (site_of s))
    (λ logs whole. ap site_of logs.now
    ∙ c.a_logged_record_is_its_action.ensures.leaves x (Formats p h) s (laid_clear p (header_bytes h)) refl (c.a_format_clears_its_page.ensures s x p h whole third c.requires.fits))
    ((returns-clause-one g c).logs told sound) (c.log_on_page.ensures.whole told sound)
