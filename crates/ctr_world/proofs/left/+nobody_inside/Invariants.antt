use Rattle.std.specs.Prelude.{◌-◌}
use Rattle.ctr_world.proofs.left.+nobody_inside.Given as goal

abbrev pub decreases-nobody_inside : goal.decreases-nobody_inside
decreases-nobody_inside l = 9 - l.s
