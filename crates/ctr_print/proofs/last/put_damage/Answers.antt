use Rattle.ctr_print.proofs.last.put_damage.Goals as goal

pub returns : goal.returns
returns g c = rw (c.in-Damaged.is, ← c.name_of.ensures) c.put_pieces.ensures
