use Rattle.ctr_workers.proofs.Leading.{led_by_turn}
use Rattle.ctr_workers.proofs.named.LedTurns.turn.Goals as goal

pub invariant_of-self : goal.invariant_of-self
invariant_of-self g c = record {
  led = led_by_turn g.B.Start.first g.B.Start.asked g.T.Turns.took c.args.self.now.turns c.turn.new.self c.args.actor c.turn.result c.requires.0 c.turn.ensures c.args.self.now.led;
}
