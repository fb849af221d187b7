use Rattle.std.proofs.Common.{refl, subst, arith}
use Rattle.ctr_types.specs.declared.tape.Actor.TheVariants as who
use Rattle.ctr_types.specs.declared.tape.Turn.{Turn}
use Rattle.ctr_world.specs.Held.{held}
use Rattle.ctr_world.specs.Turns.{EndsTurn}
use Rattle.ctr_world.proofs.Adding.{turn_adds_none}
use Rattle.ctr_world.proofs.parts.Parts.step_next.Goals as goal

pub returns-in-Some-clause-turn : goal.returns-in-Some-clause-turn
returns-in-Some-clause-turn g c = λ went.
    let left = c.in-Some.ensures in
    record {
      by = who.Session c.in-Some.s;
      first = (left.left, λ q less. left.first q (omega arith) less);
      ends = subst (λ (t : Turn). EndsTurn g.D.Disk t (who.Session c.in-Some.s) (held c.args.self.now) (held c.serve.new.self)) went c.serve.ensures.says;
    }

pub returns-in-None-clause-turn : goal.returns-in-None-clause-turn
returns-in-None-clause-turn g c = λ went.
    record {
      by = who.Undo;
      first = λ q. c.in-None.ensures.none refl q (omega arith);
      ends = subst (λ (t : Turn). EndsTurn g.D.Disk t who.Undo (held c.args.self.now) (held c.undo.new.self)) went c.undo.ensures.says;
    }

pub returns-in-Some-clause-still : goal.returns-in-Some-clause-still
returns-in-Some-clause-still g c = turn_adds_none g.D.Disk c.serve.result (who.Session c.in-Some.s) (held c.args.self.now) (held c.serve.new.self) c.serve.ensures.says

pub returns-in-None-clause-still : goal.returns-in-None-clause-still
returns-in-None-clause-still g c = turn_adds_none g.D.Disk c.undo.result who.Undo (held c.args.self.now) (held c.undo.new.self) c.undo.ensures.says
