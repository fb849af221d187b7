use Rattle.std.proofs.Common.{rules, inl, inr, Ok, Err, sym, ◌∙◌, subst}
use Rattle.std.specs.Int.{w64}
use Rattle.std.proofs.lemmas.Int.{to_z-of_z}
use Rattle.ctr_pvs.specs.redo_States.{State}
use Rattle.ctr_page.specs.declared.rows.Place.{Place}
use Rattle.ctr_area.specs.Chains.{older_places}
use Rattle.ctr_area.specs.Sound.{IsAmong}
use Rattle.ctr_record_effects.specs.States.{area_in}
use Rattle.ctr_record_effects.specs.Standing.{IsDatabaseState}
use Rattle.ctr_pvs.proofs.walk_Joins.{answers_ok}
use Rattle.ctr_pvs.proofs.walk_Damages.{reads_err}
use Rattle.ctr_dead.proofs.trim_Reading.{reads_fault}
use Rattle.ctr_clean.specs.Steps.{Locks}
use Rattle.ctr_clean.specs.declared.older.OpenKey.{OpenKey}
use Rattle.ctr_clean.specs.declared.older.OpenKey.TheVariants.{Open}
use Rattle.ctr_clean.specs.declared.older.ChainFound.{ChainFound}
use Rattle.ctr_clean.specs.declared.older.ChainFound.TheVariants.{Found, Missing, Beyond}
use Rattle.ctr_clean.specs.declared.older.Looseness.{Looseness}
use Rattle.ctr_clean.specs.declared.older.Looseness.TheVariants.{Kept, Unknown}
use Rattle.ctr_clean.specs.Older.{IsOpenKey, IsHadBy, looseness_by, LooseAt}
use Rattle.ctr_clean.proofs.Resting.{reads_on}
use Rattle.ctr_clean.proofs.Along.{not_had}
use Rattle.ctr_clean.proofs.older.loose_at.Goals as goal

-- what is known of the version entry, and whether its row's chain has it
loose_by : (low : _) (locks : Locks) (e : _) (key : _) (q : Place) (s : State) (has : ChainFound) → IsDatabaseState s → IsAmong q (older_places (area_in s) e) → IsOpenKey locks low e s q (Open key) → IsHadBy e key q s has
    → LooseAt low locks e q s (looseness_by has)
loose_by low locks e key q s Found database among known had = λ unlocked loose. loose.unlinked e had.0 had.1 had.3
loose_by low locks e key q s Missing database among known had = (known.2, not_had s e key q database among known.0 known.1 had)
loose_by low locks e key q s Beyond database among known had = (known.0, known.2, inr (subst (λ k. IsHadBy e k q s Beyond) (sym known.1) had))

pub returns-in-Err-clause-leaves : goal.returns-in-Err-clause-leaves
returns-in-Err-clause-leaves g c = reads_fault g.O.Origin.first g.D.Disk c.args.store.now c.open_at.new.store OpenKey Looseness c.in-Err.fault c.open_at.result c.in-Err.is c.open_at.ensures.leaves

pub returns-in-Ok-Closed-clause-chooses : goal.returns-in-Ok-Closed-clause-chooses
returns-in-Ok-Closed-clause-chooses g c = λ told sound database among unlocked loose.
    subst (IsOpenKey c.args.locks.now c.args.low c.args.entry c.args.store.now.now c.args.place) c.in-Ok-Closed.field-0-is (c.in-Ok-Closed.ensures.tells told sound) unlocked loose.used

pub returns-in-Ok-Waits-clause-chooses : goal.returns-in-Ok-Waits-clause-chooses
returns-in-Ok-Waits-clause-chooses g c = λ told sound database among.
    let known = subst (IsOpenKey c.args.locks.now c.args.low c.args.entry c.args.store.now.now c.args.place) c.in-Ok-Waits.field-0-is (c.in-Ok-Waits.ensures.tells told sound) in
    (known.0, known.1, inl known.2)

pub returns-in-Err-row_has-clause-leaves : goal.returns-in-Err-row_has-clause-leaves
returns-in-Err-row_has-clause-leaves g c =
    reads_err g.O.Origin.first g.D.Disk ChainFound Looseness c.in-Err-row_has.fault c.args.store.now c.row_has.new.store
    (reads_on g.O.Origin.first g.D.Disk c.in-Ok-Open.field-0 c.args.store.now c.open_at.new.store c.row_has.new.store (Err c.in-Err-row_has.fault) c.in-Ok-Open.ensures.leaves c.in-Err-row_has.ensures.leaves)

pub returns-in-Ok-clause-chooses : goal.returns-in-Ok-clause-chooses
returns-in-Ok-clause-chooses g c = λ told sound database among.
    let s = c.args.store.now.now in
    let low = c.args.low in
    let e = c.args.entry in
    let q = c.args.place in
    let key = c.in-Ok-Open.key in
    let has = c.in-Ok.has in
    subst (LooseAt low c.args.locks.now e q s) (sym c.known_by.ensures) (loose_by low c.args.locks.now e key q s has database among
    (subst (IsOpenKey c.args.locks.now low e s q) c.in-Ok-Open.field-0-is (c.in-Ok-Open.ensures.tells told sound))
    (subst (λ (u : State). IsDatabaseState u → IsHadBy e key q u has) (c.in-Ok-Open.ensures.leaves.logs told sound).now
    (subst (λ k. IsDatabaseState c.open_at.new.store.now → IsHadBy e k q c.open_at.new.store.now has) (to_z-of_z w64 key (search rules)) (c.in-Ok.ensures.tells told sound)) database))

pub returns-in-Ok-clause-leaves : goal.returns-in-Ok-clause-leaves
returns-in-Ok-clause-leaves g c =
    let first = g.O.Origin.first in
    reads_on first g.D.Disk c.in-Ok-Open.field-0 c.args.store.now c.open_at.new.store c.row_has.new.store (Ok c.known_by.result) c.in-Ok-Open.ensures.leaves
    (answers_ok first g.D.Disk c.in-Ok.has c.known_by.result c.open_at.new.store c.row_has.new.store c.in-Ok.ensures.leaves)
