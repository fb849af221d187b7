use Rattle.std.proofs.Common.{◌≡◌, Option, Ok, Err, refl, sym, ◌∙◌, subst}
use Rattle.std.specs.Prelude.{IfErr, IfOk, ⊤}
use Rattle.ctr_types.specs.declared.value.Row.{Row}
use Rattle.ctr_disk.specs.declared.fault.StoreFault.TheVariants.{Fault}
use Rattle.ctr_redo.specs.States.{State}
use Rattle.ctr_walk.specs.record_effects_States.{pages_in, area_in}
use Rattle.ctr_walk.specs.Damage.{damage_told, EndsTold, ReadsPages}
use Rattle.ctr_walk.proofs.Damages.{reads_err}
use Rattle.ctr_views.specs.pvs_Table.{TableSaid}
use Rattle.ctr_views.specs.chain_Rows.{GivesRow}
use Rattle.ctr_undamaged.specs.chain_Seeking.{sought_at}
use Rattle.ctr_views.specs.chain_Visible.{as_read, EndsReading, visible_row}
use Rattle.ctr_views.specs.chain_ReadRefusal.{ReadRefusal}
use Rattle.std.specs.declared.result.Result.{Result}
use Rattle.ctr_reading.specs.Reading.{as_told, sight_sees}
use Rattle.ctr_reading.proofs.Told.{undamaged, same_told, disk_or_memory, reads_behind, told_err, told_ok}
use Rattle.ctr_reading.proofs.Gathers.{put_some}
use Rattle.ctr_reading.proofs.Places.{gathers_none, gathers_refused, gathers_row}
use Rattle.ctr_reading.proofs.gathering.gather.Goals as goal

pub returns-in-Err-clause-leaves : goal.returns-in-Err-clause-leaves
returns-in-Err-clause-leaves g c = reads_err g.O.Origin.first g.D.Disk _ _ c.in-Err.fault c.args.store.now c.key_at.new.store c.in-Err.ensures.leaves

pub returns-in-Err-visible_of-clause-refused : goal.returns-in-Err-visible_of-clause-refused
returns-in-Err-visible_of-clause-refused g c = λ e told sound database in_ table.
    let s = c.args.store.now.now in
    let place = c.args.place in
    let r : Result (Option Row) ReadRefusal = Err c.in-Err-visible_of.refusal in
    let ends = subst (λ (t : State). TableSaid 1 t.counted (pages_in t) place.page (Ok c.args.table.now) → EndsTold (damage_told g.D.Disk c.visible_of.new.store) (EndsReading (sought_at (sight_sees t.tables c.args.sight.now) t.counted (pages_in t) place)) (as_read r)) (c.in-Ok.ensures.leaves.logs told sound).now (c.in-Err-visible_of.ensures.ends told sound) table in
    disk_or_memory r (subst (λ x. IfErr x (λ e. e ≡ Fault)) (same_told r)
    (undamaged (damage_told g.D.Disk c.visible_of.new.store) (EndsReading (sought_at (sight_sees s.tables c.args.sight.now) s.counted (pages_in s) place)) (c.a_row_is_read_without_damage.ensures.row s (sight_sees s.tables c.args.sight.now) e place database in_) (as_read r) ends))

pub returns-in-Err-visible_of-clause-gathers : goal.returns-in-Err-visible_of-clause-gathers
returns-in-Err-visible_of-clause-gathers g c = λ told sound table.
    let s = c.args.store.now.now in
    let place = c.args.place in
    let r : Result (Option Row) ReadRefusal = Err c.in-Err-visible_of.refusal in
    let gives = subst (λ (t : State). TableSaid 1 t.counted (pages_in t) place.page (Ok c.args.table.now) → IfOk (as_read r) (GivesRow (visible_row (sight_sees t.tables c.args.sight.now) (area_in t) place))) (c.in-Ok.ensures.leaves.logs told sound).now (c.in-Err-visible_of.ensures.shows told sound) table in
    gathers_refused (sight_sees s.tables c.args.sight.now) (area_in s) place c.args.rows.now c.in-Some.key (sym (c.in-Ok.ensures.tells told sound table) ∙ c.in-Some.is) ⊤ c.in-Err-visible_of.refusal _ gives

pub returns-in-Err-visible_of-clause-leaves : goal.returns-in-Err-visible_of-clause-leaves
returns-in-Err-visible_of-clause-leaves g c =
    let r : Result (Option Row) ReadRefusal = Err c.in-Err-visible_of.refusal in
    told_err g.O.Origin.first g.D.Disk (Option Row) _ c.in-Err-visible_of.refusal c.args.store.now c.visible_of.new.store
    (reads_behind g.O.Origin.first g.D.Disk c.in-Ok.key (as_told r) c.args.store.now c.key_at.new.store c.visible_of.new.store c.in-Ok.ensures.leaves
    (subst (ReadsPages g.O.Origin.first g.D.Disk c.key_at.new.store c.visible_of.new.store) (same_told r) c.in-Err-visible_of.ensures.leaves))

pub returns-in-None-clause-gathers : goal.returns-in-None-clause-gathers
returns-in-None-clause-gathers g c = λ told sound table.
    let s = c.args.store.now.now in
    let place = c.args.place in
    let shown = subst (λ (t : State). TableSaid 1 t.counted (pages_in t) place.page (Ok c.args.table.now) → c.in-Ok-visible_of.row ≡ visible_row (sight_sees t.tables c.args.sight.now) (area_in t) place) (c.in-Ok.ensures.leaves.logs told sound).now (c.in-Ok-visible_of.ensures.shows told sound) table in
    gathers_none (sight_sees s.tables c.args.sight.now) (area_in s) place c.args.rows.now c.in-Some.key (sym (c.in-Ok.ensures.tells told sound table) ∙ c.in-Some.is) (sym shown ∙ c.in-None.is)

pub returns-in-None-clause-leaves : goal.returns-in-None-clause-leaves
returns-in-None-clause-leaves g c =
    told_ok g.O.Origin.first g.D.Disk _ _ c.args.store.now c.visible_of.new.store
    (reads_behind g.O.Origin.first g.D.Disk c.in-Ok.key (Ok (Ok c.in-Ok-visible_of.row)) c.args.store.now c.key_at.new.store c.visible_of.new.store c.in-Ok.ensures.leaves c.in-Ok-visible_of.ensures.leaves)

pub returns-in-Err-put-clause-gathers : goal.returns-in-Err-put-clause-gathers
returns-in-Err-put-clause-gathers g c = λ told sound table none.
    let s = c.args.store.now.now in
    let place = c.args.place in
    let shown = subst (λ (t : State). TableSaid 1 t.counted (pages_in t) place.page (Ok c.args.table.now) → c.in-Ok-visible_of.row ≡ visible_row (sight_sees t.tables c.args.sight.now) (area_in t) place) (c.in-Ok.ensures.leaves.logs told sound).now (c.in-Ok-visible_of.ensures.shows told sound) table in
    let key_is = sym (c.in-Ok.ensures.tells told sound table) ∙ c.in-Some.is in
    put_some c.in-Some.key c.in-Some-row.row c.args.rows.now (gathers_row (sight_sees s.tables c.args.sight.now) (area_in s) place c.args.rows.now c.in-Some.key key_is c.in-Some-row.row c.in-Some.key refl (sym shown ∙ c.in-Some-row.is) ∙ none)

pub returns-in-Err-put-clause-leaves : goal.returns-in-Err-put-clause-leaves
returns-in-Err-put-clause-leaves g c =
    told_ok g.O.Origin.first g.D.Disk _ _ c.args.store.now c.visible_of.new.store
    (reads_behind g.O.Origin.first g.D.Disk c.in-Ok.key (Ok (Ok c.in-Ok-visible_of.row)) c.args.store.now c.key_at.new.store c.visible_of.new.store c.in-Ok.ensures.leaves c.in-Ok-visible_of.ensures.leaves)

pub returns-in-Ok-put-clause-gathers : goal.returns-in-Ok-put-clause-gathers
returns-in-Ok-put-clause-gathers g c = λ told sound table.
    let s = c.args.store.now.now in
    let place = c.args.place in
    let shown = subst (λ (t : State). TableSaid 1 t.counted (pages_in t) place.page (Ok c.args.table.now) → c.in-Ok-visible_of.row ≡ visible_row (sight_sees t.tables c.args.sight.now) (area_in t) place) (c.in-Ok.ensures.leaves.logs told sound).now (c.in-Ok-visible_of.ensures.shows told sound) table in
    let key_is = sym (c.in-Ok.ensures.tells told sound table) ∙ c.in-Some.is in
    c.in-Ok-put.ensures ∙ gathers_row (sight_sees s.tables c.args.sight.now) (area_in s) place c.args.rows.now c.in-Some.key key_is c.in-Some-row.row c.in-Some.key refl (sym shown ∙ c.in-Some-row.is)

pub returns-in-Ok-put-clause-leaves : goal.returns-in-Ok-put-clause-leaves
returns-in-Ok-put-clause-leaves g c =
    told_ok g.O.Origin.first g.D.Disk _ _ c.args.store.now c.visible_of.new.store
    (reads_behind g.O.Origin.first g.D.Disk c.in-Ok.key (Ok (Ok c.in-Ok-visible_of.row)) c.args.store.now c.key_at.new.store c.visible_of.new.store c.in-Ok.ensures.leaves c.in-Ok-visible_of.ensures.leaves)
