use Rattle.std.proofs.Common.{◌≡◌, ℕ, inl, Some, Ok, Err, Result, refl, ◌∙◌, ap, subst}
use Rattle.std.specs.Prelude.{IsTrue, OnOk, IfErr, ⊤}
use Rattle.ctr_disk.specs.declared.fault.StoreFault.{StoreFault}
use Rattle.ctr_disk.specs.declared.fault.StoreFault.TheVariants.{Fault, Damaged}
use Rattle.ctr_pvs.specs.base_Base.{IsSoundImage}
use Rattle.ctr_passed.specs.redo_States.{State}
use Rattle.ctr_page.specs.declared.walk.BadChain.{BadChain}
use Rattle.ctr_page.specs.Places.{kept_size}
use Rattle.ctr_page.specs.Making.{kept_bytes}
use Rattle.ctr_pvs.specs.walk_Damage.{damage_told, EndsTold}
use Rattle.ctr_pvs.proofs.walk_Damages.{reads}
use Rattle.ctr_pvs.proofs.walk_Limits.{below_limit}
use Rattle.ctr_record_effects.specs.States.{pages_in, area_in, IsWholePage}
use Rattle.ctr_record_effects.specs.Changing.{laid_on_place}
use Rattle.ctr_record_effects.specs.Standing.{IsDatabaseState}
use Rattle.ctr_passed.specs.record_laws_Loose.{IsLoose}
use Rattle.ctr_passed.specs.actions_Sites.{site_of}
use Rattle.ctr_passed.specs.actions_Actions.{FreesOlder, site_after}
use Rattle.ctr_passed.specs.Laid.{width_in}
use Rattle.ctr_pvs.specs.Writing.{blank_entry, blank_record, drop_check, DropsEntry}
use Rattle.ctr_page_turns.specs.Acts.{ActsBy}
use Rattle.ctr_undamaged.specs.Undamaged.{MeetsNoDamage}
use Rattle.ctr_trim.proofs.Freed.{blank_made, drops_behind}
use Rattle.ctr_trim.proofs.freeing.free_loose.Given.{Over}
use Rattle.ctr_trim.proofs.freeing.free_loose.Goals.{After-free_entry}
use Rattle.ctr_trim.proofs.freeing.free_loose.Goals as goal

-- an answer that tells no damage is a fault of the disk
by_disk : (Ends : Result ⊤ BadChain → Type 0) (told : BadChain → StoreFault) (result : Result ⊤ StoreFault) → MeetsNoDamage Ends → EndsTold told Ends result → IfErr result (λ f. f ≡ Fault)
by_disk Ends told (Ok x) none ends = tt
by_disk Ends told (Err Fault) none ends = refl
by_disk Ends told (Err (Damaged d)) none ends = absurd (none.told told d ends)

module _ (g : Over) (c : After-free_entry g) where
  abbrev s : State
  s = c.args.store.now.now

  abbrev t : State
  t = c.free_entry.new.store.now

  same : IsTrue g.D.Disk.tells → IsSoundImage g.O.Origin.first → c.look.new.store.now ≡ s
  same told sound = (c.in-Ok.ensures.leaves.logs told sound).now

  one : DropsEntry g.O.Origin.first g.D.Disk c.args.place c.args.store.now c.free_entry.new.store c.free_entry.result
  one = drops_behind g.O.Origin.first g.D.Disk c.args.place c.args.store.now c.look.new.store c.free_entry.new.store c.in-Ok.ensures.leaves c.free_entry.result c.free_entry.ensures.one
      (λ told sound. ap pages_in (same told sound))

  site : IsTrue g.D.Disk.tells → IsSoundImage g.O.Origin.first → (x e : ℕ) → OnOk c.free_entry.result (site_of t ≡ site_after x (FreesOlder e c.args.place) (site_of s))
  site told sound x e = subst (λ (u : State). OnOk c.free_entry.result (site_of t ≡ site_after x (FreesOlder e c.args.place) (site_of u))) (same told sound) (c.free_entry.ensures.leaves x e told sound)

pub returns-in-Ok-clause-one : goal.returns-in-Ok-clause-one
returns-in-Ok-clause-one g c = one g c

pub returns-in-Ok-clause-leaves : goal.returns-in-Ok-clause-leaves
returns-in-Ok-clause-leaves g c = λ x e told sound. site g c told sound x e

pub returns-in-Ok-clause-acts : goal.returns-in-Ok-clause-acts
returns-in-Ok-clause-acts g c = λ x e told sound database loose.
    by x e told sound database loose c.free_entry.result (one g c) (site g c told sound x e) (c.in-Ok.ensures.whole told sound)
  where
    by : (x e : ℕ) → IsTrue g.D.Disk.tells → IsSoundImage g.O.Origin.first → IsDatabaseState (s g c) → IsLoose (area_in (s g c)) e c.args.place ((area_in (s g c)).older c.args.place) → (result : Result ⊤ StoreFault)
        → DropsEntry g.O.Origin.first g.D.Disk c.args.place c.args.store.now c.free_entry.new.store result → OnOk result (site_of (t g c) ≡ site_after x (FreesOlder e c.args.place) (site_of (s g c)))
        → IsWholePage c.args.place.page (s g c) → OnOk result (ActsBy x (FreesOlder e c.args.place) (s g c) (t g c))
    by x e told sound database loose (Ok z) (w, logged, wide) is page =
        let at = c.args.place in
        let width : w ≡ width_in (area_in (s g c)) e = wide told sound ∙ (c.a_place_of_a_table_fits.ensures.versions (s g c) e at database loose.here).1 in
        c.a_record_acts.ensures x (FreesOlder e at) (blank_record at w) c.args.store.now c.free_entry.new.store (logged.logs told sound) loose is
        (c.owed_versions_are_laid_as_their_actions.ensures.frees (s g c) (blank_record at w) e at (blank_entry w) database loose
        (record { made = blank_made (s g c).counted ((area_in (s g c)).title e).columns w width; whole = page; lays = ap (λ n. Some (laid_on_place at (kept_size n) (kept_bytes (blank_entry w)))) width }))
    by x e told sound database loose (Err f) ends is page = tt

pub returns-in-Ok-clause-refused : goal.returns-in-Ok-clause-refused
returns-in-Ok-clause-refused g c = λ e told sound database loose.
    let at = c.args.place in
    by_disk (λ r. r ≡ drop_check (s g c).counted (pages_in (s g c)) at) (damage_told g.D.Disk c.free_entry.new.store) c.free_entry.result (c.a_version_entry_is_read_without_damage.ensures.freed (s g c) e at database loose.here)
    (subst (λ (u : State). EndsTold (damage_told g.D.Disk c.free_entry.new.store) (λ r. r ≡ drop_check u.counted (pages_in u) at) c.free_entry.result) (same g c told sound) (c.free_entry.ensures.ends told sound))

pub returns-in-Err-clause-one : goal.returns-in-Err-clause-one
returns-in-Err-clause-one g c = inl (reads g.O.Origin.first g.D.Disk (Err c.in-Err.fault) c.args.store.now c.look.new.store c.in-Err.ensures.leaves)

pub look-requires-clause-there : goal.look-requires-clause-there
look-requires-clause-there g c = below_limit c.args.place.page c.args.store.now.now.counted c.requires.counted c.counts_pages.ensures.1
