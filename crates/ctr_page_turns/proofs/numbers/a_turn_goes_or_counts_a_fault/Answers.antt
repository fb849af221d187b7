use Rattle.ctr_page_turns.proofs.Counted.{told_going, told_faults}
use Rattle.ctr_page_turns.proofs.numbers.a_turn_goes_or_counts_a_fault.Goals as goal

pub returns-clause-going : goal.returns-clause-going
returns-clause-going g c = λ first a b x. told_going first g.D.Disk a b x

pub returns-clause-faults : goal.returns-clause-faults
returns-clause-faults g c = λ first a b result. told_faults first g.D.Disk a b result (c.a_fault_of_reading_is_counted.ensures first a b result)
