use Rattle.std.proofs.Common.{◌≡◌, ◌+◌, ◌*◌, ◌/◌, ◌%◌, Ok, sym, subst}
use Rattle.std.specs.Prelude.{IfOk, IfErr}
use Rattle.ctr_page.specs.Damage.{entry_check}
use Rattle.ctr_record_effects.specs.States.{pages_in, area_in}
use Rattle.ctr_walk.specs.Damage.{damage_told, EndsOnPage, ReadsPages}
use Rattle.ctr_walk.proofs.Damages.{told_ends, told_ok}
use Rattle.ctr_undo.specs.Naming.{name_said, GivesName, NameSaid, named_by}
use Rattle.ctr_undo.proofs.Read.{given_there, gives_answered, IsUndamaged, undamaged_answered, leaves_answered}
use Rattle.ctr_undo.proofs.naming.name.Goals as goal

pub returns-clause-gives : goal.returns-clause-gives
returns-clause-gives g c = λ told sound.
    let s = c.args.store.now.now in
    let e = c.args.entry in
    let name = name_said ((area_in s).title e) in
    let found = c.name_at-found in
    subst (λ r. IfOk r (λ x. x ≡ name)) (sym c.answer.ensures)
    (gives_answered name c.tell.result (told_ok _ (damage_told g.D.Disk c.tell.new.store) (GivesName name) found.result c.tell.result c.tell.ensures.told
    (given_there c.counted-counted.result e (pages_in s) found.result c.requires.there (found.ensures.said told sound))))

pub returns-clause-undamaged : goal.returns-clause-undamaged
returns-clause-undamaged g c = λ told sound db.
    let s = c.args.store.now.now in
    let e = c.args.entry in
    let n = c.counted-counted.result in
    let page = pages_in s (1 + e / 16) in
    let found = c.name_at-found in
    let damage = damage_told g.D.Disk c.tell.new.store in
    let ends = EndsOnPage (1 + e / 16) (NameSaid n (e % 16) page) in
    subst (λ r. IfErr r IsUndamaged) (sym c.answer.ensures)
    (undamaged_answered damage n (e % 16) (1 + e / 16) page c.tell.result
    (subst (λ m. entry_check m (256 * (e % 16)) page ≡ Ok tt) (sym c.counted-counted.ensures) (db.passed.entries e c.requires.there))
    (told_ends damage ends found.result c.tell.result c.tell.ensures.told (told, sound) (found.ensures.leaves.refused told sound) (found.ensures.said told sound)))

pub returns-clause-leaves : goal.returns-clause-leaves
returns-clause-leaves g c =
    subst (λ r. ReadsPages g.O.Origin.first g.D.Disk c.args.store.now c.tell.new.store (named_by r)) (sym c.answer.ensures)
    (leaves_answered g.O.Origin.first g.D.Disk c.tell.result c.args.store.now c.tell.new.store (c.tell.ensures.leaves c.args.store.now c.name_at-found.ensures.leaves))
