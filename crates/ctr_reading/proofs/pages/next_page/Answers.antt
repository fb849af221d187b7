use Rattle.std.proofs.Common.{ℕ, Result, subst}
use Rattle.ctr_page.specs.declared.walk.BadChain.{BadChain}
use Rattle.ctr_walk.specs.record_effects_States.{pages_in}
use Rattle.ctr_walk.specs.Damage.{damage_told, EndsOnPage, EndsTold}
use Rattle.ctr_walk.proofs.Damages.{told_ends}
use Rattle.ctr_reading.specs.Gathering.{NextSaid}
use Rattle.ctr_reading.proofs.Places.{next_tells, next_undamaged}
use Rattle.ctr_reading.proofs.pages.next_page.Goals as goal

pub returns-clause-ends : goal.returns-clause-ends
returns-clause-ends g c = λ told sound.
    let p = c.args.p in
    let e = c.next_on-found.ensures in
    let P : ℕ → Result ℕ BadChain → Type 0 = λ n. EndsOnPage p (NextSaid c.args.chain n (pages_in c.args.store.now.now p)) in
    subst (λ n. EndsTold (damage_told g.D.Disk c.tell.new.store) (P n) c.tell.result) c.counted-counted.ensures
    (told_ends (damage_told g.D.Disk c.tell.new.store) (P c.counted-counted.result) c.next_on-found.result c.tell.result c.tell.ensures.told (told, sound) (e.leaves.refused told sound) (e.said told sound))

pub returns-clause-tells : goal.returns-clause-tells
returns-clause-tells g c = λ told sound behind.
    let s = c.args.store.now.now in
    next_tells (damage_told g.D.Disk c.tell.new.store) c.args.chain s.counted (pages_in s) c.args.p c.tell.result behind (returns-clause-ends g c told sound)

pub returns-clause-refused : goal.returns-clause-refused
returns-clause-refused g c = λ told sound page.
    next_undamaged (damage_told g.D.Disk c.tell.new.store) c.args.chain c.args.p c.args.store.now.now page c.tell.result (returns-clause-ends g c told sound)
