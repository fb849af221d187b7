use Rattle.std.proofs.Common.{◌∙◌, Err, ap}
use Rattle.ctr_page.specs.Columns.{kinds_width}
use Rattle.ctr_page.specs.Places.{slot_size, room_for}
use Rattle.ctr_walk.specs.record_effects_States.{pages_in}
use Rattle.ctr_walk.specs.Damage.{damage_told}
use Rattle.ctr_walk.proofs.Damages.{reads_err}
use Rattle.ctr_reading.proofs.Places.{room_is, table_undamaged}
use Rattle.ctr_reading.proofs.pages.slots_on.Goals as goal

pub returns-in-Err-clause-refused : goal.returns-in-Err-clause-refused
returns-in-Err-clause-refused g c = λ chain told sound page.
    table_undamaged (damage_told g.D.Disk c.table_told.new.store) chain c.args.p c.args.store.now.now page (Err c.in-Err.fault) (c.in-Err.ensures.ends told sound)

pub returns-in-Err-clause-leaves : goal.returns-in-Err-clause-leaves
returns-in-Err-clause-leaves g c = reads_err g.O.Origin.first g.D.Disk _ _ c.in-Err.fault c.args.store.now c.table_told.new.store c.in-Err.ensures.leaves

pub returns-clause-are : goal.returns-clause-are
returns-clause-are g c = λ told sound.
    let s = c.args.store.now.now in
    let said = c.in-Ok.ensures.ends told sound in
    record {
      table = said;
      count = c.room_for-count.ensures ∙ ap room_for (c.slot_size.ensures.value ∙ ap slot_size (c.kinds_width.ensures.value ∙ ap kinds_width c.kinds.ensures.value)) ∙ room_is s.counted (pages_in s) c.args.p c.in-Ok.table said;
    }
