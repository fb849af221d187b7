use Rattle.ctr_print.proofs.last.put_worn.Goals as goal

pub returns : goal.returns
returns g c = rw c.in-Worn.is c.put_pieces.ensures
