use Rattle.std.proofs.Common.{◌≡◌, inl, Err, List, refl, ◌∙◌, ap, subst}
use Rattle.ctr_types.specs.declared.value.Column.{Column}
use Rattle.ctr_area.specs.Areas.{Older}
use Rattle.ctr_meta.specs.Tables.{Tables}
use Rattle.ctr_area.specs.Reading.{older_said}
use Rattle.ctr_extend.specs.record_laws_Owed.{older_copy}
use Rattle.ctr_extend.specs.record_effects_States.{area_in}
use Rattle.ctr_extend.specs.actions_Sites.{site_of}
use Rattle.ctr_extend.specs.actions_Actions.{Keeps, Owes, site_after}
use Rattle.ctr_extend.specs.actions_Facts.{HasSlot, HasCopy}
use Rattle.ctr_page.specs.Places.{kept_size}
use Rattle.ctr_page.specs.Making.{kept_bytes}
use Rattle.ctr_extend.specs.record_effects_Changing.{laid_on_place}
use Rattle.ctr_extend.specs.pvs_Writing.{keep_record, entry_width}
use Rattle.ctr_extend.specs.page_turns_Turns.{LogsARecord}
use Rattle.ctr_write.specs.declared.stages.Stage.TheVariants.{Kept}
use Rattle.ctr_write.specs.declared.stages.Written.TheVariants.{On}
use Rattle.ctr_write.proofs.Steps.{moved, drawn_of}
use Rattle.ctr_write.proofs.keeping.lay.Goals as goal

pub returns-in-Ok-clause-turns : goal.returns-in-Ok-clause-turns
returns-in-Ok-clause-turns g c =
    c.a_turn_goes_on.ensures.answered g.O.Origin.first c.args.store.now c.keep.new.store tt (On (Kept c.args.place)) (LogsARecord (keep_record c.args.x c.args.place c.args.version.now, c.in-Ok.ensures.one))

pub returns-in-Err-clause-turns : goal.returns-in-Err-clause-turns
returns-in-Err-clause-turns g c =
    c.a_turn_goes_on.ensures.failed g.O.Origin.first c.args.store.now c.keep.new.store c.in-Err.fault (Err c.in-Err.fault) (Err c.in-Err.fault) (LogsARecord (keep_record c.args.x c.args.place c.args.version.now, c.in-Err.ensures.one)) refl refl

pub returns-in-Ok-clause-is : goal.returns-in-Ok-clause-is
returns-in-Ok-clause-is g c = (refl, (refl, (c.in-Ok.ensures.one.takes.left, ap (λ (u : Tables). u.next) c.in-Ok.ensures.one.takes.tables)))

pub returns-in-Ok-clause-numbers : goal.returns-in-Ok-clause-numbers
returns-in-Ok-clause-numbers g c = c.in-Ok.ensures.one.takes.next

pub returns-in-Ok-clause-steps : goal.returns-in-Ok-clause-steps
returns-in-Ok-clause-steps g c = λ e at v told sound may copy.
    let x = c.args.x in
    let q = c.args.place in
    let entry = c.args.version.now in
    let a = c.args.store.now in
    let b = c.keep.new.store in
    let s = a.now in
    let columns = ((area_in s).title e).columns in
    let one = c.in-Ok.ensures in
    let whole = one.whole told sound in
    let among = may.free.0 in
    let fits = c.a_place_of_a_table_fits.ensures.versions s e q may.sound among in
    let place = c.a_version_is_put_at_its_place.ensures.place s e q entry may.sound among copy.made whole in
    let puts = c.a_version_is_put_at_its_place.ensures.puts s x e q entry copy.made whole in
    let it = older_copy ((area_in s).slot at) v in
    let said = ap (λ (l : List Column). older_said l entry) fits.2 ∙ copy.is in
    let leaves = subst (λ (o : Older). site_of b.now ≡ site_after x (Keeps e q o) (site_of s)) said (one.leaves told sound e place) in
    let owed : Owes x (Keeps e q it) (site_of s) = (
      may.is_open,
      record { here = among; free = may.free.1; drawn = drawn_of e at v s may.sound copy.used copy.of_slot },
    ) in
    let laid = c.owed_versions_are_laid_as_their_actions.ensures.keeps s (keep_record x q entry) e q it entry may.sound owed.1 puts in
    let acts = c.a_record_acts.ensures x (Keeps e q it) (keep_record x q entry) a b (one.one.logs told sound) owed leaves laid in
    record {
      acts = acts;
      has = c.what_is_done_stays.ensures.held x x (Keeps e q it) (HasSlot e at ((area_in s).slot at)) s b.now acts.does may.sound.few may.sound.sound tt (inl tt) (copy.used, refl);
      copy = moved x (HasCopy e at v q) (site_after x (Keeps e q it) (site_of s)) (site_of b.now) leaves (c.an_action_gives_its_fact.ensures.kept x (site_of s) e at q v may.sound.sound copy.used owed);
    }

pub returns-in-Err-clause-refused : goal.returns-in-Err-clause-refused
returns-in-Err-clause-refused g c = λ e at v told sound may copy.
    let x = c.args.x in
    let q = c.args.place in
    let entry = c.args.version.now in
    let a = c.args.store.now in
    let s = a.now in
    let it = older_copy ((area_in s).slot at) v in
    let owed : Owes x (Keeps e q it) (site_of s) = (
      may.is_open,
      record { here = may.free.0; free = may.free.1; drawn = drawn_of e at v s may.sound copy.used copy.of_slot },
    ) in
    c.a_record_is_refused_by_the_disk_alone.ensures x (Keeps e q it) (laid_on_place q (kept_size (entry_width entry)) (kept_bytes entry)) a c.keep.new.store (Err c.in-Err.fault) may.sound owed
    (c.meta-tables.ensures.now told sound c.requires.room.going) (c.in-Err.ensures.one.refused told sound)
