use Rattle.std.proofs.Common.{ℕ, ℤ, Option, Result, subst}
use Rattle.ctr_page.specs.declared.walk.BadChain.{BadChain}
use Rattle.ctr_walk.specs.record_effects_States.{pages_in}
use Rattle.ctr_walk.specs.Damage.{damage_told, EndsOnPage, EndsTold}
use Rattle.ctr_walk.proofs.Damages.{told_ends}
use Rattle.ctr_reading.specs.Gathering.{KeySaid}
use Rattle.ctr_reading.proofs.Places.{key_tells, key_undamaged, slot_passes}
use Rattle.ctr_reading.proofs.slots.key_at.Goals as goal

pub returns-clause-ends : goal.returns-clause-ends
returns-clause-ends g c = λ told sound.
    let at = c.args.place in
    let e = c.key_on-found.ensures in
    let P : ℕ → Result (Option ℤ) BadChain → Type 0 = λ n. EndsOnPage at.page (KeySaid n c.args.table.now at.slot (pages_in c.args.store.now.now at.page)) in
    subst (λ n. EndsTold (damage_told g.D.Disk c.tell.new.store) (P n) c.tell.result) c.counted-counted.ensures
    (told_ends (damage_told g.D.Disk c.tell.new.store) (P c.counted-counted.result) c.key_on-found.result c.tell.result c.tell.ensures.told (told, sound) (e.leaves.refused told sound) (e.said told sound))

pub returns-clause-tells : goal.returns-clause-tells
returns-clause-tells g c = λ told sound table.
    let s = c.args.store.now.now in
    key_tells s.counted (pages_in s) c.args.place c.args.table.now table (damage_told g.D.Disk c.tell.new.store) c.tell.result (returns-clause-ends g c told sound)

pub returns-clause-refused : goal.returns-clause-refused
returns-clause-refused g c = λ e told sound database in_ table.
    let s = c.args.store.now.now in
    key_undamaged s.counted (pages_in s) c.args.place c.args.table.now table (damage_told g.D.Disk c.tell.new.store) (slot_passes s e c.args.place database in_) c.tell.result (returns-clause-ends g c told sound)
