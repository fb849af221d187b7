use Rattle.std.proofs.Common.{sym, subst}
use Rattle.std.specs.Prelude.{IfOk}
use Rattle.ctr_pvs.specs.record_effects_States.{pages_in, area_in}
use Rattle.ctr_pvs.specs.walk_Damage.{damage_told, EndsTold}
use Rattle.ctr_pvs.proofs.walk_Damages.{told_ends, told_ok}
use Rattle.ctr_names.specs.meta_Seen.{xid_is_seen}
use Rattle.ctr_names.specs.meta_Tables.{Tables}
use Rattle.ctr_chain.specs.Rows.{GivesRow}
use Rattle.ctr_chain.specs.Seeking.{sought_at}
use Rattle.ctr_chain.specs.Visible.{as_read, EndsReading, visible_row}
use Rattle.ctr_chain.proofs.view.visible_of.Goals as goal

pub returns-clause-ends : goal.returns-clause-ends
returns-clause-ends g c = λ told sound said.
    let a = c.args.store.now in
    let e = c.found_of-found.ensures in
    let ends = EndsReading (sought_at (xid_is_seen a.meta.tables c.args.snapshot.now c.args.me) a.now.counted (pages_in a.now) c.args.place) in
    subst (λ (tables : Tables). EndsTold (damage_told g.D.Disk c.tell.new.store) (EndsReading (sought_at (xid_is_seen tables c.args.snapshot.now c.args.me) a.now.counted (pages_in a.now) c.args.place)) (as_read c.answer.result))
    (c.meta-tables.ensures.now told sound c.requires.going)
    (subst (EndsTold (damage_told g.D.Disk c.tell.new.store) ends) (sym c.answer.ensures)
    (told_ends (damage_told g.D.Disk c.tell.new.store) ends c.found_of-found.result c.tell.result c.tell.ensures.told (told, sound) (e.leaves.refused told sound) (e.ends told sound said)))

pub returns-clause-shows : goal.returns-clause-shows
returns-clause-shows g c = λ told sound said.
    let a = c.args.store.now in
    let shown = GivesRow (visible_row (xid_is_seen a.meta.tables c.args.snapshot.now c.args.me) (area_in a.now) c.args.place) in
    subst (λ (tables : Tables). IfOk (as_read c.answer.result) (GivesRow (visible_row (xid_is_seen tables c.args.snapshot.now c.args.me) (area_in a.now) c.args.place)))
    (c.meta-tables.ensures.now told sound c.requires.going)
    (subst (λ r. IfOk r shown) (sym c.answer.ensures)
    (told_ok _ (damage_told g.D.Disk c.tell.new.store) shown c.found_of-found.result c.tell.result c.tell.ensures.told (c.found_of-found.ensures.shows told sound said)))
