use Rattle.std.proofs.Common.{ℕ, ◌+◌, ◌/◌, ◌%◌, Result, subst}
use Rattle.ctr_page.specs.declared.walk.BadChain.{BadChain}
use Rattle.ctr_record_effects.specs.States.{pages_in}
use Rattle.ctr_walk.specs.Damage.{damage_told, EndsOnPage, EndsTold}
use Rattle.ctr_walk.proofs.Damages.{told_ends}
use Rattle.ctr_titles.specs.declared.reading.TitleRead.{TitleRead}
use Rattle.ctr_titles.specs.Titles.{TitleSaid}
use Rattle.ctr_titles.proofs.Read.{told_title, undamaged}
use Rattle.ctr_titles.proofs.reading.title_at.Goals as goal

pub returns-clause-ends : goal.returns-clause-ends
returns-clause-ends g c = λ told sound.
    let e = c.args.entry in
    let read = c.title_on-found.ensures in
    let P : ℕ → Result TitleRead BadChain → Type 0 = λ n. EndsOnPage (1 + e / 16) (TitleSaid n (e % 16) (pages_in c.args.store.now.now (1 + e / 16))) in
    subst (λ n. EndsTold (damage_told g.D.Disk c.tell.new.store) (P n) c.tell.result) c.counted-counted.ensures
    (told_ends (damage_told g.D.Disk c.tell.new.store) (P c.counted-counted.result) c.title_on-found.result c.tell.result c.tell.ensures.told (told, sound) (read.leaves.refused told sound) (read.said told sound))

pub returns-clause-tells : goal.returns-clause-tells
returns-clause-tells g c = λ told sound.
    let s = c.args.store.now.now in
    told_title (damage_told g.D.Disk c.tell.new.store) s.counted c.args.entry (pages_in s) c.tell.result c.requires.there (returns-clause-ends g c told sound)

pub returns-clause-refused : goal.returns-clause-refused
returns-clause-refused g c = λ told sound db.
    let s = c.args.store.now.now in
    let e = c.args.entry in
    undamaged (damage_told g.D.Disk c.tell.new.store) s.counted (e % 16) (1 + e / 16) (pages_in s (1 + e / 16)) c.tell.result (db.passed.entries e c.requires.there) (returns-clause-ends g c told sound)
