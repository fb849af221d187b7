use Rattle.std.proofs.Common.{ℤ, Option, Some, Ok, Err, sym, ◌∙◌, ap, subst}
use Rattle.std.specs.Prelude.{IfSome, FitsSigned}
use Rattle.std.specs.Int.{w64}
use Rattle.std.proofs.lemmas.Int.{to_z-of_z}
use Rattle.ctr_types.specs.declared.value.Row.{Row}
use Rattle.ctr_types.specs.declared.value.Schema.{Schema}
use Rattle.ctr_value.specs.Columns.{ColumnsFit}
use Rattle.ctr_redo.specs.States.{State}
use Rattle.ctr_record_effects.specs.States.{area_in}
use Rattle.ctr_record_effects.specs.Standing.{HasSoundArea}
use Rattle.ctr_reading.specs.Reading.{sight_sees, IsRowSeen, GivesSeen}
use Rattle.ctr_wishes.specs.Preparing.{columns_read, IsMadeIn}
use Rattle.ctr_wishes.specs.declared.making.Prepared.{Prepared}
use Rattle.ctr_wishes.proofs.Behind.{failed, answered, run_out, read_behind}
use Rattle.ctr_wishes.proofs.preparing.prepare.Goals as goal

pub returns-in-Err-clause-leaves : goal.returns-in-Err-clause-leaves
returns-in-Err-clause-leaves g c = failed g.O.Origin.first g.D.Disk (Option Schema) Prepared c.in-Err.refusal c.args.store.now c.columns.new.store c.in-Err.ensures.leaves

pub returns-in-Err-row_of_key-clause-leaves : goal.returns-in-Err-row_of_key-clause-leaves
returns-in-Err-row_of_key-clause-leaves g c =
    failed g.O.Origin.first g.D.Disk (Option Row) Prepared c.in-Err-row_of_key.refusal c.args.store.now c.row_of_key.new.store
    (read_behind g.O.Origin.first g.D.Disk (Option Schema) (Option Row) c.in-Ok.found (Err c.in-Err-row_of_key.refusal) c.args.store.now c.columns.new.store c.row_of_key.new.store c.in-Ok.ensures.leaves c.in-Err-row_of_key.ensures.leaves)

pub returns-in-Err-wished-clause-leaves : goal.returns-in-Err-wished-clause-leaves
returns-in-Err-wished-clause-leaves g c =
    run_out g.O.Origin.first g.D.Disk (Option Row) Prepared c.in-Ok-row_of_key.row c.args.store.now c.row_of_key.new.store
    (read_behind g.O.Origin.first g.D.Disk (Option Schema) (Option Row) c.in-Ok.found (Ok c.in-Ok-row_of_key.row) c.args.store.now c.columns.new.store c.row_of_key.new.store c.in-Ok.ensures.leaves c.in-Ok-row_of_key.ensures.leaves)

pub returns-clause-leaves : goal.returns-clause-leaves
returns-clause-leaves g c =
    answered g.O.Origin.first g.D.Disk (Option Row) Prepared c.in-Ok-row_of_key.row c.in-Ok-wished.prepared c.args.store.now c.row_of_key.new.store
    (read_behind g.O.Origin.first g.D.Disk (Option Schema) (Option Row) c.in-Ok.found (Ok c.in-Ok-row_of_key.row) c.args.store.now c.columns.new.store c.row_of_key.new.store c.in-Ok.ensures.leaves c.in-Ok-row_of_key.ensures.leaves)

pub returns-clause-prepared : goal.returns-clause-prepared
returns-clause-prepared g c = λ told sound area_sound.
    let s = c.args.store.now.now in
    let area = area_in s in
    let test = sight_sees s.tables c.args.sight.now in
    let e = c.args.entry in
    let schema = c.in-Some-found.schema in
    let row = c.in-Ok-row_of_key.row in
    let number = c.number-number.result in
    let wide : FitsSigned w64 number = record { sfits = c.number-number.type_inv } in
    let z = to_z-of_z w64 number wide in
    let there = c.in-Ok.ensures.gives told sound ∙ ap columns_read c.in-Some-found.is in
    let fits = subst (λ (o : Option Schema). IfSome o (λ schema. ColumnsFit schema.columns)) c.in-Some-found.is c.in-Ok.ensures.fits in
    let shown = subst (λ (t : State). HasSoundArea t → GivesSeen (sight_sees t.tables c.args.sight.now) (area_in t) e number (Ok row)) (c.in-Ok.ensures.leaves.logs told sound).now
    (subst (λ (k : ℤ). HasSoundArea c.columns.new.store.now → GivesSeen (sight_sees c.columns.new.store.now.tables c.args.sight.now) (area_in c.columns.new.store.now) e k (Ok row)) z (c.in-Ok-row_of_key.ensures.shows told sound)) area_sound in
    subst (λ o. IsMadeIn test area e c.args.statement.now o c.in-Ok-wished.prepared) (sym there) (record {
      key = number;
      row = row;
      written = sym c.in-Some.ensures ∙ ap (λ (k : ℤ). Some k) (sym c.number-number.ensures);
      wide = wide;
      columns = fits;
      seen = subst (IsRowSeen test area e number) (sym shown.2) shown.1;
      wished = c.in-Ok-wished.ensures;
    })
