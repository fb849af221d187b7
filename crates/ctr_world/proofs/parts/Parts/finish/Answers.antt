use Rattle.std.proofs.Common.{◌∙◌}
use Rattle.ctr_world.proofs.parts.Parts.finish.Goals as goal

pub returns-clause-turns : goal.returns-clause-turns
returns-clause-turns g c =
    let by = c.run.ensures.turns in
    record { between = by.between; last = by.last; turns = by.turns; tape_is = c.count_if.ensures.tape ∙ c.settle.ensures.tape ∙ by.tape_is }
