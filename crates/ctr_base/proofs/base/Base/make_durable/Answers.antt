use Rattle.ctr_base.specs.BaseLaws.{rests_leaves, stands_still, holds_still}
use Rattle.ctr_base.proofs.base.Base.make_durable.Goals as goal

pub returns-then-lsn-self-clause-goes : goal.returns-then-lsn-self-clause-goes
returns-then-lsn-self-clause-goes g c told = rests_leaves g.D.Disk g.O.Origin.first g.met.D.Disk.only_now c.args.self.now (c.requires told)

pub returns-then-lsn-self-clause-moves : goal.returns-then-lsn-self-clause-moves
returns-then-lsn-self-clause-moves g c told = (λ sound. stands_still g.D.Disk c.args.self.now, c.requires told)

pub returns-then-lsn-self-clause-holds : goal.returns-then-lsn-self-clause-holds
returns-then-lsn-self-clause-holds g c told = holds_still g.D.Disk g.O.Origin.first c.args.self.now
