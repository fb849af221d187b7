use Rattle.std.proofs.Common.{ℕ, List, Option, Some, Result, Ok, Err, length, ◌∙◌, ap, subst}
use Rattle.ctr_types.specs.declared.memory.OutOfMemory.{OutOfMemory}
use Rattle.ctr_types.specs.declared.value.Row.{Row}
use Rattle.ctr_types.specs.declared.value.Rows.{Rows}
use Rattle.ctr_meta.specs.Kept.{TablesKept}
use Rattle.ctr_redo.specs.States.{State}
use Rattle.ctr_record_effects.specs.States.{area_in}
use Rattle.ctr_record_effects.specs.Standing.{HasSoundArea}
use Rattle.ctr_walk.proofs.Damages.{reads_err}
use Rattle.ctr_reading.specs.Reading.{as_told, sight_sees, GivesShown}
use Rattle.ctr_reading.proofs.Told.{reads_behind, told_err, told_ok}
use Rattle.ctr_survey.proofs.Shown.{shown_many, told_standing}
use Rattle.ctr_survey.proofs.counting.rows_standing.Goals as goal

pub returns-in-Err-clause-leaves : goal.returns-in-Err-clause-leaves
returns-in-Err-clause-leaves g c = reads_err g.O.Origin.first g.D.Disk _ _ c.in-Err.fault c.args.store.now c.made.new.store c.in-Err.ensures.leaves

pub returns-in-Err-rows_of_table-clause-leaves : goal.returns-in-Err-rows_of_table-clause-leaves
returns-in-Err-rows_of_table-clause-leaves g c =
    let refusal = c.in-Err-rows_of_table.refusal in
    reads_behind g.O.Origin.first g.D.Disk c.in-Ok.made (as_told {T = Option ℕ} (Err refusal)) c.args.store.now c.made.new.store c.rows_of_table.new.store c.in-Ok.ensures.leaves
    (told_err g.O.Origin.first g.D.Disk Rows (Option ℕ) refusal c.made.new.store c.rows_of_table.new.store c.in-Err-rows_of_table.ensures.leaves)

pub returns-in-Ok-rows_of_table-clause-leaves : goal.returns-in-Ok-rows_of_table-clause-leaves
returns-in-Ok-rows_of_table-clause-leaves g c =
    reads_behind g.O.Origin.first g.D.Disk c.in-Ok.made (as_told (Ok (Some c.len.result))) c.args.store.now c.made.new.store c.rows_of_table.new.store c.in-Ok.ensures.leaves
    (told_ok g.O.Origin.first g.D.Disk _ _ c.made.new.store c.rows_of_table.new.store c.in-Ok-rows_of_table.ensures.leaves)

pub returns-in-Ok-rows_of_table-clause-counts : goal.returns-in-Ok-rows_of_table-clause-counts
returns-in-Ok-rows_of_table-clause-counts g c = λ told sound area_sound.
    let a = c.args.store.now.now in
    let e = c.args.entry in
    let sight = c.args.sight.now in
    let same = (c.in-Ok.ensures.leaves.logs told sound).now in
    let tables = ap (λ (m : TablesKept). m.tables) c.meta.ensures.tables ∙ c.meta.ensures.now told sound c.in-Ok.ensures.leaves.going ∙ ap (λ (t : State). t.tables) same in
    let rows : Result Rows OutOfMemory = Ok c.in-Ok-rows_of_table.rows in
    let shown = subst (λ (t : State). HasSoundArea t → GivesShown (sight_sees t.tables sight) (area_in t) e rows) same (c.in-Ok-rows_of_table.ensures.shows told sound) area_sound in (
      told_standing a.tables c.meta.result.now.tables sight ((area_in a).title e) c.in-Ok.made c.stands.result tables (c.in-Ok.ensures.tells told sound) c.stands.ensures ∙ c.if-not-stands.false,
      c.len.ensures ∙ ap (λ (rs : List Row). length rs) shown.2 ∙ shown_many (sight_sees a.tables sight) (area_in a) e area_sound.keys shown.0 shown.1,
    )
