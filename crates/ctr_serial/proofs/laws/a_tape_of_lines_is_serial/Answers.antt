use Rattle.ctr_serial.proofs.Lists.{serial_front, line_more}
use Rattle.ctr_serial.proofs.laws.a_tape_of_lines_is_serial.Goals as goal

pub returns-clause-serial : goal.returns-clause-serial
returns-clause-serial c = λ lines k es is. serial_front lines k es is

pub returns-clause-more : goal.returns-clause-more
returns-clause-more c = λ lines k l front e es there before all. line_more lines k l front e es there before all
