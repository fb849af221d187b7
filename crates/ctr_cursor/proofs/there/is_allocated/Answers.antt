use Rattle.std.proofs.Common.{◌<◌, ◌∙◌, ap, arith}
use Rattle.ctr_area.specs.Reading.{is_taken}
use Rattle.ctr_walk.proofs.Limits.{in_limit}
use Rattle.ctr_cursor.proofs.there.is_allocated.Goals as goal

first : 0 < 30000
first = omega arith

pub returns-clause-tells : goal.returns-clause-tells
returns-clause-tells g c = λ told sound. c.has_bit.ensures ∙ ap (is_taken c.args.p) (c.in_ok-page.ensures.shown told sound (in_limit 0 first))
