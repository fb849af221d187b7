use Rattle.ctr_store.proofs.GenerationLaws.{fold_switched, older_home}
use Rattle.ctr_store.proofs.parts.Parts.drop_older.Goals as goal

pub drop_older-requires-clause-home : goal.drop_older-requires-clause-home
drop_older-requires-clause-home g c told sound = older_home g.O.Origin.first g.D.Disk c.args.self.now (c.requires.fold told) sound c.requires.can

pub returns-clause-switches : goal.returns-clause-switches
returns-clause-switches g c told =
    let e = c.in_ok-drop_older.ensures.switches told in
    (e.base, fold_switched g.O.Origin.first g.D.Disk c.args.self.now c.drop_older.new.self (c.requires.fold told) e.base e.holds e.rests)
