use Rattle.std.proofs.Common.{Err, refl}
use Rattle.ctr_extend.specs.Ways.{items_wanted}
use Rattle.ctr_write.proofs.Extended.{inside_for, left_for, moves_for}
use Rattle.ctr_write.proofs.extending.more.Goals as goal

pub returns-in-Ok-clause-turns : goal.returns-in-Ok-clause-turns
returns-in-Ok-clause-turns g c = c.a_turn_goes_on.ensures.answered g.O.Origin.first c.args.store.now c.extend.new.store c.in-Ok.extended c.written_from.result c.in-Ok.ensures.turns

pub returns-in-Err-clause-turns : goal.returns-in-Err-clause-turns
returns-in-Err-clause-turns g c = c.a_turn_goes_on.ensures.failed g.O.Origin.first c.args.store.now c.extend.new.store c.in-Err.fault (Err c.in-Err.fault) (Err c.in-Err.fault) c.in-Err.ensures.turns refl refl

pub returns-in-Ok-clause-inside : goal.returns-in-Ok-clause-inside
returns-in-Ok-clause-inside g c = inside_for c.args.chain c.in-Ok.extended c.written_from.result c.written_from.ensures c.extend.new.store.now.counted c.requires.there c.in-Ok.ensures.inside

pub returns-in-Ok-clause-left : goal.returns-in-Ok-clause-left
returns-in-Ok-clause-left g c = left_for c.args.chain c.in-Ok.extended c.written_from.result c.written_from.ensures (items_wanted c.args.way) c.args.store.now.meta c.extend.new.store.meta c.in-Ok.ensures.left

pub returns-in-Ok-clause-numbers : goal.returns-in-Ok-clause-numbers
returns-in-Ok-clause-numbers g c = moves_for c.args.chain c.in-Ok.extended c.written_from.result c.written_from.ensures c.args.store.now c.extend.new.store c.in-Ok.ensures.numbers

pub returns-in-Ok-clause-steps : goal.returns-in-Ok-clause-steps
returns-in-Ok-clause-steps g c = λ told sound may. (c.in-Ok.extended, c.written_from.ensures, c.in-Ok.ensures.steps told sound may)
