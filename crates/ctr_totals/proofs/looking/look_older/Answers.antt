use Rattle.std.proofs.Common.{◌≡◌, List, Result, subst}
use Rattle.std.specs.Prelude.{IfErr}
use Rattle.ctr_disk.specs.declared.fault.StoreFault.{StoreFault}
use Rattle.ctr_disk.specs.declared.fault.StoreFault.TheVariants.{Fault}
use Rattle.ctr_area.specs.Areas.{Older}
use Rattle.ctr_area.specs.Reading.{older_said}
use Rattle.ctr_types.specs.declared.value.Column.{Column}
use Rattle.ctr_record_effects.specs.States.{pages_in, area_in}
use Rattle.ctr_passed.specs.Logged.{IsOlderOf}
use Rattle.ctr_pvs.specs.Lending.{entry_lent, VersionSaidAt}
use Rattle.ctr_walk.specs.Damage.{damage_told}
use Rattle.ctr_pvs.specs.declared.lending.LentVersion.{LentVersion}
use Rattle.ctr_cursor.proofs.reading_Told.{undamaged}
use Rattle.ctr_totals.specs.Facts.{IsKnownOlder}
use Rattle.ctr_totals.proofs.Left.{reads_fault}
use Rattle.ctr_totals.proofs.looking.look_older.Goals as goal

pub returns-in-Err-clause-leaves : goal.returns-in-Err-clause-leaves
returns-in-Err-clause-leaves g c = reads_fault g.O.Origin.first g.D.Disk c.args.store.now c.version.follows.lender-at-none LentVersion _ c.in-Err.fault c.version.result c.in-Err.is c.version.follows.holds-at-none.leaves

pub returns-in-Err-clause-refused : goal.returns-in-Err-clause-refused
returns-in-Err-clause-refused g c = λ e told sound database in_.
    let s = c.args.store.now.now in
    let at = c.args.place in
    subst (λ (r : Result LentVersion StoreFault). IfErr r (λ f. f ≡ Fault)) c.in-Err.is
    (undamaged (damage_told g.D.Disk c.version.follows.lender-at-none) (VersionSaidAt s.counted (pages_in s) at) (c.a_version_entry_is_read_without_damage.ensures.read s e at database in_) c.version.result (c.version.follows.holds-at-none.ends told sound))

pub returns-in-Ok-clause-tells : goal.returns-in-Ok-clause-tells
returns-in-Ok-clause-tells g c = λ told sound columns.
    let s = c.args.store.now.now in
    let made = subst (λ (cs : List Column). IsOlderOf s.counted cs (entry_lent c.in-Ok.lent)) columns (c.in-Ok.ensures.made told sound) in
    let said = subst (λ (cs : List Column). older_said cs (entry_lent c.in-Ok.lent) ≡ (area_in s).older c.args.place) columns (c.in-Ok.ensures.finds told sound) in
    subst (λ (x : Older). IsKnownOlder x c.older_facts.result) said (c.older_facts.ensures s.counted made)
