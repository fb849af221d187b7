use Rattle.std.proofs.Common.{Result, subst}
use Rattle.ctr_disk.specs.declared.fault.StoreFault.{StoreFault}
use Rattle.ctr_record_effects.specs.States.{pages_in}
use Rattle.ctr_pvs.specs.walk_Damage.{damage_told, EndsTold}
use Rattle.ctr_pvs.specs.declared.lending.LentVersion.{LentVersion}
use Rattle.ctr_pvs.specs.Lending.{VersionSaidAt}
use Rattle.ctr_dead.proofs.trim_Reading.{reads_fault, by_disk}
use Rattle.ctr_clean.specs.declared.older.OlderFacts.{OlderFacts}
use Rattle.ctr_clean.proofs.older.look_older.Goals as goal

pub returns-in-Err-clause-leaves : goal.returns-in-Err-clause-leaves
returns-in-Err-clause-leaves g c = reads_fault g.O.Origin.first g.D.Disk c.args.store.now c.version.follows.lender-at-none LentVersion OlderFacts c.in-Err.fault c.version.result c.in-Err.is c.version.follows.holds-at-none.leaves

pub returns-in-Err-clause-refused : goal.returns-in-Err-clause-refused
returns-in-Err-clause-refused g c = λ e told sound database in_.
    let s = c.args.store.now.now in
    let at = c.args.place in
    let Ends : Result LentVersion _ → Type 0 = VersionSaidAt s.counted (pages_in s) at in
    by_disk Ends (damage_told g.D.Disk c.version.follows.lender-at-none) c.in-Err.fault (c.a_version_entry_is_read_without_damage.ensures.read s e at database in_).ends
    (subst (λ (r : Result LentVersion StoreFault). EndsTold (damage_told g.D.Disk c.version.follows.lender-at-none) Ends r) c.in-Err.is (c.version.follows.holds-at-none.ends told sound))
