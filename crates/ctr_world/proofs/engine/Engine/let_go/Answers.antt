use Rattle.ctr_world.specs.Held.{running}
use Rattle.ctr_world.proofs.Going.{gone_none, gone_some, holds_kept, holds_released}
use Rattle.ctr_world.proofs.engine.Engine.let_go.Goals as goal

pub returns-in-Some-clause-held : goal.returns-in-Some-clause-held
returns-in-Some-clause-held g c =
    let w = running c.args.self.now in
    holds_released w c.requires.held c.name_gone.new.names.items c.in-Some.name c.moment.result c.release.new.self
    (gone_some c.args.undone w.names c.name_gone.new.names.items c.in-Some.name c.in-Some.ensures) c.release.ensures.is

pub returns-in_default-clause-held : goal.returns-in_default-clause-held
returns-in_default-clause-held g c =
    let w = running c.args.self.now in
    holds_kept w c.requires.held c.name_gone.new.names.items (gone_none c.args.undone w.names c.name_gone.new.names.items c.in_default.ensures)
