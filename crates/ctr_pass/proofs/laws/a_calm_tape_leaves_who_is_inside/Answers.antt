use Rattle.ctr_model.specs.Tape.{final}
use Rattle.ctr_pass.proofs.Enduring.{led_endures, was_outside}
use Rattle.ctr_pass.proofs.laws.a_calm_tape_leaves_who_is_inside.Goals as goal

pub returns-clause-inside : goal.returns-clause-inside
returns-clause-inside g = λ lines p es s t calm is. (led_endures lines p es calm).keeps s t is

pub returns-clause-outside : goal.returns-clause-outside
returns-clause-outside g = λ lines p es s calm none. was_outside p.state (final lines p es).state s (led_endures lines p es calm) none
