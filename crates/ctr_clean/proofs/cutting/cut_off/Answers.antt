use Rattle.std.proofs.Common.{◌≡◌, ℕ, Option, sym, subst}
use Rattle.std.specs.Prelude.{IsTrue, IfOk, IfErr}
use Rattle.ctr_pvs.specs.base_Base.{IsSoundImage}
use Rattle.ctr_disk.specs.declared.fault.StoreFault.TheVariants.{Fault}
use Rattle.ctr_pvs.specs.redo_States.{State}
use Rattle.ctr_page.specs.declared.rows.Place.{Place}
use Rattle.ctr_area.specs.Chains.{older_bound, Leads}
use Rattle.ctr_area.specs.Sound.{IsKeptFor, IsUsedSlot}
use Rattle.ctr_record_effects.specs.States.{area_in}
use Rattle.ctr_record_effects.specs.Standing.{IsDatabaseState}
use Rattle.ctr_dead.proofs.trim_Reading.{reads_fault}
use Rattle.ctr_clean.specs.Choosing.{passes_below}
use Rattle.ctr_clean.specs.Cutting.{IsCutAlong}
use Rattle.ctr_clean.specs.declared.cutting.CutFound.{CutFound}
use Rattle.ctr_clean.proofs.Resting.{reads_on}
use Rattle.ctr_clean.proofs.cutting.cut_off.Given.{Over}
use Rattle.ctr_clean.proofs.cutting.cut_off.Goals.{After-cut_along}
use Rattle.ctr_clean.proofs.cutting.cut_off.Goals as goal

pub returns-in-Err-clause-leaves : goal.returns-in-Err-clause-leaves
returns-in-Err-clause-leaves g c = reads_fault g.O.Origin.first g.D.Disk c.args.store.now c.behind_at.new.store Place CutFound c.in-Err.fault c.behind_at.result c.in-Err.is c.behind_at.ensures.leaves

module _ (g : Over) (c : After-cut_along g) (e : ℕ) (told : IsTrue g.D.Disk.tells) (sound : IsSoundImage g.O.Origin.first) (database : IsDatabaseState c.args.store.now.now) (used : IsUsedSlot (area_in c.args.store.now.now) e c.args.place) where
  abbrev s : State
  s = c.args.store.now.now

  same : c.behind_at.new.store.now ≡ s
  same = (c.in-Ok.ensures.leaves.logs told sound).now

  from_there : ((area_in s).slot c.args.place).pointer ≡ c.in-Ok.from
  from_there = (c.in-Ok.ensures.leads told sound used.1).0

  leads : Leads older_bound (area_in s).older (IsKeptFor (area_in s) e ((area_in s).slot c.args.place).key) c.in-Ok.from
  leads = subst (Leads older_bound (area_in s).older (IsKeptFor (area_in s) e ((area_in s).slot c.args.place).key)) from_there (database.sound.pointers.lead e c.args.place used)

  tells : IfOk c.cut_along.result (IsCutAlong (passes_below c.args.low s.tables) (area_in s) ((area_in s).slot c.args.place).pointer)
  tells = subst (λ p. IfOk c.cut_along.result (IsCutAlong (passes_below c.args.low s.tables) (area_in s) p)) (sym from_there)
      (subst (λ (u : State). IsDatabaseState u → Leads older_bound (area_in u).older (IsKeptFor (area_in u) e ((area_in s).slot c.args.place).key) c.in-Ok.from → IfOk c.cut_along.result (IsCutAlong (passes_below c.args.low u.tables) (area_in u) c.in-Ok.from))
      same (c.cut_along.ensures.tells e ((area_in s).slot c.args.place).key told sound) database leads)

  refused : IfErr c.cut_along.result (λ f. f ≡ Fault)
  refused = subst (λ (u : State). IsDatabaseState u → Leads older_bound (area_in u).older (IsKeptFor (area_in u) e ((area_in s).slot c.args.place).key) c.in-Ok.from → IfErr c.cut_along.result (λ f. f ≡ Fault))
      same (c.cut_along.ensures.refused e ((area_in s).slot c.args.place).key told sound) database leads

pub returns-in-Ok-clause-tells : goal.returns-in-Ok-clause-tells
returns-in-Ok-clause-tells g c = λ e told sound database used. tells g c e told sound database used

pub returns-in-Ok-clause-leaves : goal.returns-in-Ok-clause-leaves
returns-in-Ok-clause-leaves g c = reads_on g.O.Origin.first g.D.Disk c.in-Ok.from c.args.store.now c.behind_at.new.store c.cut_along.new.store c.cut_along.result c.in-Ok.ensures.leaves c.cut_along.ensures.leaves

pub returns-in-Ok-clause-refused : goal.returns-in-Ok-clause-refused
returns-in-Ok-clause-refused g c = λ e told sound database used. refused g c e told sound database used
