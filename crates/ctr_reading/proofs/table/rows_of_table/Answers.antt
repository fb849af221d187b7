use Rattle.std.proofs.Common.{◌∙◌, Result, Ok, Err, sym, ap, subst}
use Rattle.std.specs.Prelude.{IfOk, ⊤}
use Rattle.ctr_types.specs.declared.memory.OutOfMemory.{OutOfMemory}
use Rattle.ctr_types.specs.declared.value.Rows.{Rows}
use Rattle.ctr_area.specs.Chains.{slot_places}
use Rattle.ctr_walk.specs.record_effects_States.{area_in}
use Rattle.ctr_walk.specs.Damage.{ReadsPages}
use Rattle.ctr_views.specs.chain_ReadRefusal.{ReadRefusal}
use Rattle.ctr_reading.specs.Reading.{as_told, sight_sees, GivesShown}
use Rattle.ctr_reading.specs.Gathering.{gathered, Gathers}
use Rattle.ctr_reading.proofs.Scans.{refused_shown, given_shown}
use Rattle.ctr_reading.proofs.Told.{told_err, told_ok}
use Rattle.ctr_reading.proofs.table.rows_of_table.Goals as goal

pub returns-in-Err-clause-shows : goal.returns-in-Err-clause-shows
returns-in-Err-clause-shows g c = λ told sound area_sound.
    let s = c.args.store.now.now in
    let test = sight_sees s.tables c.args.sight.now in
    let r : Result ⊤ ReadRefusal = Err c.in-Err.refusal in
    refused_shown test (area_in s) c.args.entry area_sound.keys ⊤ c.in-Err.refusal c.scan.new.rows
    (subst (λ old. IfOk (as_told r) (Gathers (gathered test (area_in s) (slot_places (area_in s) c.args.entry) old) c.scan.new.rows)) c.new-rows.ensures (c.in-Err.ensures.gathers told sound))

pub returns-in-Err-clause-leaves : goal.returns-in-Err-clause-leaves
returns-in-Err-clause-leaves g c = told_err g.O.Origin.first g.D.Disk ⊤ Rows c.in-Err.refusal c.args.store.now c.scan.new.store c.in-Err.ensures.leaves

pub returns-in-Ok-clause-shows : goal.returns-in-Ok-clause-shows
returns-in-Ok-clause-shows g c = λ told sound area_sound.
    let s = c.args.store.now.now in
    let test = sight_sees s.tables c.args.sight.now in
    subst (λ r. IfOk r (GivesShown test (area_in s) c.args.entry)) (sym c.given.ensures.told)
    (given_shown test (area_in s) c.args.entry area_sound.keys c.scan.new.rows c.into_rows.result
    (c.in-Ok.ensures.gathers told sound ∙ ap (gathered test (area_in s) (slot_places (area_in s) c.args.entry)) c.new-rows.ensures) c.into_rows.ensures)

pub returns-in-Ok-clause-leaves : goal.returns-in-Ok-clause-leaves
returns-in-Ok-clause-leaves g c =
    let done : Result ⊤ OutOfMemory = Ok tt in
    subst (ReadsPages g.O.Origin.first g.D.Disk c.args.store.now c.scan.new.store) (sym c.given.ensures.told)
    (told_ok g.O.Origin.first g.D.Disk done c.into_rows.result c.args.store.now c.scan.new.store c.in-Ok.ensures.leaves)
