use Rattle.ctr_store.proofs.PartsLaws.{fold_grown}
use Rattle.ctr_store.proofs.parts.Parts.grow.Goals as goal

pub returns-clause-grows : goal.returns-clause-grows
returns-clause-grows g c told =
    let grows = c.in_ok-grow.ensures.grows told in
    (grows.base, fold_grown g.O.Origin.first g.D.Disk c.args.self.now c.grow.new.self (c.requires.fold told) grows.base grows.holds grows.rests)
