use Rattle.std.proofs.Common.{◌≡◌, [], ◌∷◌, length, take, Some, sym, ap, ◌∙◌, subst}
use Rattle.ctr_rec.specs.declared.record.Overlay.{Overlay}
use Rattle.ctr_rec.specs.declared.record.Record.{Record}
use Rattle.ctr_rec.specs.declared.record.Record.TheVariants.{Trim}
use Rattle.ctr_passed.specs.redo_States.{page_at}
use Rattle.ctr_page.specs.Places.{kept_size}
use Rattle.ctr_page.specs.Making.{kept_bytes, IsEntry}
use Rattle.ctr_passed.specs.area_Areas.{free_older}
use Rattle.ctr_passed.specs.area_Changes.{with_older}
use Rattle.ctr_passed.specs.record_effects_States.{area_in}
use Rattle.ctr_walk.specs.record_effects_Changing.{laid_on_place}
use Rattle.ctr_walk.specs.store_Store.{MayLog, Logs}
use Rattle.ctr_walk.specs.OneRecord.{LogsOne}
use Rattle.ctr_walk.proofs.Records.{both_ok}
use Rattle.ctr_pvs.specs.Writing.{blank_entry, blank_record}
use Rattle.ctr_pvs.proofs.OneRecord.{blank_is, blank_may}
use Rattle.ctr_walk.proofs.Limits.{below_limit}
use Rattle.ctr_pvs.proofs.writing.lay_blank.Goals as goal

pub log_on_page-requires-clause-there : goal.log_on_page-requires-clause-there
log_on_page-requires-clause-there g c = below_limit c.args.place.page c.args.store.now.now.counted c.requires.counted c.counts_pages.ensures.1

pub log_on_page-requires-clause-may : goal.log_on_page-requires-clause-may
log_on_page-requires-clause-may g c =
    let at = c.args.place in
    let w = c.args.w in
    let laid = c.over_place.ensures ∙ (λ i. laid_on_place at (c.kept_size-size.ensures.value i) (take (c.kept_size-size.ensures.value i) c.blank_made-bytes.result)) ∙ ap (laid_on_place at (kept_size w)) c.blank_made-bytes.ensures in
    subst (λ (r : Record). MayLog r c.args.store.now) (sym (ap (λ (o : Overlay). Trim o) laid))
    (blank_may c.args.store.now at w c.requires.narrow c.requires.inside c.counts_pages.ensures.1 c.requires.counted c.requires.room)

pub returns-clause-one : goal.returns-clause-one
returns-clause-one g c =
    let at = c.args.place in
    let w = c.args.w in
    let laid = c.over_place.ensures ∙ (λ i. laid_on_place at (c.kept_size-size.ensures.value i) (take (c.kept_size-size.ensures.value i) c.blank_made-bytes.result)) ∙ ap (laid_on_place at (kept_size w)) c.blank_made-bytes.ensures in
    subst (λ (r : Record). LogsOne g.O.Origin.first g.D.Disk r c.args.store.now c.log_on_page.new.store c.log_on_page.result) (ap (λ (o : Overlay). Trim o) laid) c.log_on_page.ensures.one

pub returns-clause-freed : goal.returns-clause-freed
unfolding returns-clause-one
returns-clause-freed g c = λ told sound place wide.
    let at = c.args.place in
    let w = c.args.w in
    let s = c.args.store.now.now in
    both_ok c.log_on_page.result (Logs (blank_record at w ∷ []) c.args.store.now c.log_on_page.new.store) (length (page_at at.page s.pages) ≡ 4096)
    (area_in c.log_on_page.new.store.now ≡ with_older at free_older (area_in s))
    (λ logs whole. ap area_in logs.now
    ∙ c.a_version_is_laid.ensures s (blank_record at w) at (blank_entry w) whole place (subst (λ v. IsEntry v (blank_entry w)) (sym wide) (blank_is w))
    (sym (ap (λ v. Some (laid_on_place at (kept_size v) (kept_bytes (blank_entry w)))) wide)))
    ((returns-clause-one g c).logs told sound) (c.log_on_page.ensures.whole told sound)
