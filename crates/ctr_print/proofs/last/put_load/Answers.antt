use Rattle.std.proofs.Common.{◌≡◌, rules, to_z, of_z}
use Rattle.std.specs.Int.{w128}
use Rattle.std.proofs.lemmas.Int.{to_z-of_z}
use Rattle.ctr_print.proofs.last.put_load.Goals as goal

pub returns : goal.returns
returns g c =
    let sum = c.args.report.now.sum in
    let written : to_z w128 (of_z w128 sum) ≡ sum = to_z-of_z w128 sum (search rules) in
    rw (← c.count_answers.ensures, ← c.count_refusals.ensures) (rw written at c.put_pieces.ensures)
