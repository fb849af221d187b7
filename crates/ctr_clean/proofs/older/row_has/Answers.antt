use Rattle.std.proofs.Common.{◌≡◌, ℤ, Option, Some, Result, Ok, Err, sym, ◌∙◌, subst}
use Rattle.std.specs.Prelude.{IsTrue, IfOk, IfErr}
use Rattle.std.specs.Int.{w64}
use Rattle.std.proofs.lemmas.Int.{to_z-of_z}
use Rattle.ctr_pvs.specs.base_Base.{IsSoundImage}
use Rattle.ctr_disk.specs.declared.fault.StoreFault.{StoreFault}
use Rattle.ctr_disk.specs.declared.fault.StoreFault.TheVariants.{Fault}
use Rattle.ctr_pvs.specs.redo_States.{State}
use Rattle.ctr_page.specs.declared.rows.Place.{Place}
use Rattle.ctr_page.specs.Places.{bucket_of}
use Rattle.ctr_area.specs.Chains.{older_bound, places_along, Leads}
use Rattle.ctr_area.specs.Sound.{IsAmong, IsKeptFor}
use Rattle.ctr_record_effects.specs.States.{pages_in, area_in}
use Rattle.ctr_record_effects.specs.Standing.{IsDatabaseState}
use Rattle.ctr_pvs.specs.walk_Damage.{damage_told, EndsTold}
use Rattle.ctr_dead.specs.heap_Finding.{EndsBucket, FindsKey}
use Rattle.ctr_dead.specs.heap_SlotSought.TheVariants.{Key}
use Rattle.ctr_dead.proofs.trim_Reading.{reads_fault, by_disk}
use Rattle.ctr_clean.specs.declared.older.ChainFound.{ChainFound}
use Rattle.ctr_clean.specs.declared.older.ChainFound.TheVariants.{Found, Missing, Beyond}
use Rattle.ctr_clean.specs.Older.{HasAlong, IsHadBy}
use Rattle.ctr_clean.proofs.Resting.{reads_on}
use Rattle.ctr_area.specs.Reading.{columns_on}
use Rattle.ctr_clean.specs.Heads.{LeadsFrom}
use Rattle.ctr_clean.proofs.older.row_has.Given.{Over}
use Rattle.ctr_clean.proofs.older.row_has.Goals.{After-chain_has}
use Rattle.ctr_clean.proofs.older.row_has.Goals as goal

-- the row was found, and what its chain has
had : (s : State) (e : _) (key : ℤ) (at from q : Place) → IsDatabaseState s → FindsKey (area_in s) e key (Some at) → ((area_in s).slot at).pointer ≡ from
    → (result : Result ChainFound StoreFault) → IfOk result (HasAlong (area_in s) from q) → IfOk result (IsHadBy e key q s)
had s e key at from q database found is (Ok Found) has = (at, found.0, found.1, subst (λ p. HasAlong (area_in s) p q Found) (sym is) has)
had s e key at from q database found is (Ok Beyond) has = (at, found.0, found.1, subst (λ p. HasAlong (area_in s) p q Beyond) (sym is) has)
had s e key at from q database found is (Ok Missing) has = λ b used key_is in_.
    has (subst (λ p. IsAmong q (places_along older_bound (area_in s).older p)) is
    (subst (λ (p : Place). IsAmong q (places_along older_bound (area_in s).older ((area_in s).slot p).pointer)) (database.sound.keys.once e b at used found.0 (key_is ∙ sym found.1)) in_))
had s e key at from q database found is (Err f) has = tt

pub returns-in-Err-clause-leaves : goal.returns-in-Err-clause-leaves
returns-in-Err-clause-leaves g c = reads_fault g.O.Origin.first g.D.Disk c.args.store.now c.find.new.store (Option Place) ChainFound c.in-Err.fault c.find.result c.in-Err.is c.find.ensures.leaves

pub returns-in-Err-clause-refused : goal.returns-in-Err-clause-refused
returns-in-Err-clause-refused g c = λ told sound database.
    let s = c.args.store.now.now in
    let told_by = damage_told g.D.Disk c.find.new.store in
    let Ends : Result (Option Place) _ → Type 0 = EndsBucket s.counted (pages_in s) c.args.entry (bucket_of c.args.key) (Key c.args.key) in
    by_disk Ends told_by c.in-Err.fault (c.a_bucket_search_meets_no_damage.ensures s c.args.entry (bucket_of c.args.key) (Key c.args.key) database c.requires.there).ends
    (subst (λ (r : Result (Option Place) StoreFault). EndsTold told_by Ends r) c.in-Err.is
    (subst (λ k. EndsTold told_by (EndsBucket s.counted (pages_in s) c.args.entry (bucket_of k) (Key k)) c.find.result) (to_z-of_z w64 c.args.key c.ranges.key) (c.find.ensures.ends told sound)))

pub returns-in-Ok-None-clause-tells : goal.returns-in-Ok-None-clause-tells
returns-in-Ok-None-clause-tells g c = λ told sound database at used key_is in_.
    let area = area_in c.args.store.now.now in
    subst (FindsKey area c.args.entry c.args.key) c.in-Ok-None.field-0-is
    (subst (λ k. FindsKey area c.args.entry k c.in-Ok-None.field-0) (to_z-of_z w64 c.args.key c.ranges.key) (c.in-Ok-None.ensures.finds told sound database.sound.readable)) database.sound.keys at used key_is

pub returns-in-Err-behind_at-clause-leaves : goal.returns-in-Err-behind_at-clause-leaves
returns-in-Err-behind_at-clause-leaves g c =
    reads_on g.O.Origin.first g.D.Disk c.in-Ok-Some.field-0 c.args.store.now c.find.new.store c.behind_at.new.store (Err c.in-Err-behind_at.fault) c.in-Ok-Some.ensures.leaves
    (reads_fault g.O.Origin.first g.D.Disk c.find.new.store c.behind_at.new.store Place ChainFound c.in-Err-behind_at.fault c.behind_at.result c.in-Err-behind_at.is c.behind_at.ensures.leaves)

-- the row was found, and its chain was gone along
module _ (g : Over) (c : After-chain_has g) (told : IsTrue g.D.Disk.tells) (sound : IsSoundImage g.O.Origin.first) (database : IsDatabaseState c.args.store.now.now) where
  abbrev s : State
  s = c.args.store.now.now

  same_find : c.find.new.store.now ≡ s
  same_find = (c.in-Ok-Some.ensures.leaves.logs told sound).now

  same : c.behind_at.new.store.now ≡ s
  same = (c.in-Ok.ensures.leaves.logs told sound).now ∙ same_find

  found : FindsKey (area_in s) c.args.entry c.args.key (Some c.in-Ok-Some.at)
  found = subst (FindsKey (area_in s) c.args.entry c.args.key) c.in-Ok-Some.field-0-is
      (subst (λ k. FindsKey (area_in s) c.args.entry k c.in-Ok-Some.field-0) (to_z-of_z w64 c.args.key c.ranges.key) (c.in-Ok-Some.ensures.finds told sound database.sound.readable))

  from_there : ((area_in s).slot c.in-Ok-Some.at).pointer ≡ c.in-Ok.older
  from_there = (subst (λ (u : State). LeadsFrom (columns_on (pages_in u) c.in-Ok-Some.at.page) ((area_in u).slot c.in-Ok-Some.at) c.in-Ok.older) same_find (c.in-Ok.ensures.leads told sound) found.0.1).0

  leads : Leads older_bound (area_in s).older (IsKeptFor (area_in s) c.args.entry ((area_in s).slot c.in-Ok-Some.at).key) c.in-Ok.older
  leads = subst (Leads older_bound (area_in s).older (IsKeptFor (area_in s) c.args.entry ((area_in s).slot c.in-Ok-Some.at).key)) from_there (database.sound.pointers.lead c.args.entry c.in-Ok-Some.at found.0)

  tells : IfOk c.chain_has.result (IsHadBy c.args.entry c.args.key c.args.place s)
  tells = had s c.args.entry c.args.key c.in-Ok-Some.at c.in-Ok.older c.args.place database found from_there c.chain_has.result
      (subst (λ (u : State). IsDatabaseState u → Leads older_bound (area_in u).older (IsKeptFor (area_in u) c.args.entry ((area_in s).slot c.in-Ok-Some.at).key) c.in-Ok.older → IfOk c.chain_has.result (HasAlong (area_in u) c.in-Ok.older c.args.place))
      same (c.chain_has.ensures.tells c.args.entry ((area_in s).slot c.in-Ok-Some.at).key told sound) database leads)

  refused : IfErr c.chain_has.result (λ f. f ≡ Fault)
  refused = subst (λ (u : State). IsDatabaseState u → Leads older_bound (area_in u).older (IsKeptFor (area_in u) c.args.entry ((area_in s).slot c.in-Ok-Some.at).key) c.in-Ok.older → IfErr c.chain_has.result (λ f. f ≡ Fault))
      same (c.chain_has.ensures.refused c.args.entry ((area_in s).slot c.in-Ok-Some.at).key told sound) database leads

pub returns-in-Ok-clause-tells : goal.returns-in-Ok-clause-tells
returns-in-Ok-clause-tells g c = λ told sound database. tells g c told sound database

pub returns-in-Ok-clause-leaves : goal.returns-in-Ok-clause-leaves
returns-in-Ok-clause-leaves g c =
    let first = g.O.Origin.first in
    reads_on first g.D.Disk c.in-Ok-Some.field-0 c.args.store.now c.find.new.store c.chain_has.new.store c.chain_has.result c.in-Ok-Some.ensures.leaves
    (reads_on first g.D.Disk c.in-Ok.older c.find.new.store c.behind_at.new.store c.chain_has.new.store c.chain_has.result c.in-Ok.ensures.leaves c.chain_has.ensures.leaves)

pub returns-in-Ok-clause-refused : goal.returns-in-Ok-clause-refused
returns-in-Ok-clause-refused g c = λ told sound database. refused g c told sound database
