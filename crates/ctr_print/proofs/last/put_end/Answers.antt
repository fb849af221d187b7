use Rattle.ctr_print.proofs.last.put_end.Goals as goal

pub returns : goal.returns
returns g c = rw (← c.count_answers.ensures, ← c.count_refusals.ensures) c.put_pieces.ensures
