use Rattle.ctr_store.proofs.GenerationLaws.{fold_switched, is_checkpoint_of}
use Rattle.ctr_store.proofs.parts.Parts.begin_generation.Goals as goal

pub begin_generation-requires-clause-is : goal.begin_generation-requires-clause-is
begin_generation-requires-clause-is g c told sound = is_checkpoint_of g.O.Origin.first g.D.Disk c.args.self.now c.args.checkpoint.now (c.requires.fold told) sound c.requires.can.empty c.requires.spelled

pub returns-clause-switches : goal.returns-clause-switches
returns-clause-switches g c told =
    let e = c.in_ok-begin_generation.ensures.switches told in
    (e.base, fold_switched g.O.Origin.first g.D.Disk c.args.self.now c.begin_generation.new.self (c.requires.fold told) e.base e.holds e.rests)
