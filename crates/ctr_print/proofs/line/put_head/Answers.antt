use Rattle.ctr_print.proofs.line.put_head.Goals as goal

pub returns : goal.returns
returns g c = rw (← c.from.ensures) c.put_pieces.ensures
