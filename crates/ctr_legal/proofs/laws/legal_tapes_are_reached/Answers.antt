use Rattle.ctr_model.specs.Tape.{at_start}
use Rattle.ctr_legal.proofs.Reached.{start_reached, tape_reached}
use Rattle.ctr_legal.proofs.laws.legal_tapes_are_reached.Goals as goal

pub returns : goal.returns
returns c = λ lines moment base stuck tape legal. tape_reached lines (at_start moment base stuck) tape (start_reached lines moment base stuck) legal
