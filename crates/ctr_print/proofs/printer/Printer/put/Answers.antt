use Rattle.ctr_print.proofs.Joins.{in_two}
use Rattle.ctr_print.proofs.printer.Printer.put.Goals as goal

pub returns-then-rest-lt-PIECE : goal.returns-then-rest-lt-PIECE
returns-then-rest-lt-PIECE g c = in_two _ c.split_at.ensures.front c.split_at.ensures.back c.gather-2.ensures.adds c.flush.ensures.adds c.gather-then-rest-lt-PIECE.ensures.adds

pub returns-else-rest-lt-PIECE : goal.returns-else-rest-lt-PIECE
returns-else-rest-lt-PIECE g c = in_two _ c.split_at.ensures.front c.split_at.ensures.back c.gather-2.ensures.adds c.flush.ensures.adds c.pass.ensures.adds
