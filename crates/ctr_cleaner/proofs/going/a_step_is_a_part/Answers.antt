use Rattle.ctr_cleaner.proofs.Joined.{step_part, reclaim_part, freed_part, unlinked_part}
use Rattle.ctr_cleaner.proofs.going.a_step_is_a_part.Goals as goal

pub returns-clause-step : goal.returns-clause-step
returns-clause-step g c = λ first u v result. step_part first g.D.Disk u v result

pub returns-clause-reclaimed : goal.returns-clause-reclaimed
returns-clause-reclaimed g c = λ first u v result. reclaim_part first g.D.Disk u v result

pub returns-clause-freed : goal.returns-clause-freed
returns-clause-freed g c = λ first u v result. freed_part first g.D.Disk u v result

pub returns-clause-unlinked : goal.returns-clause-unlinked
returns-clause-unlinked g c = λ first u v result. unlinked_part first g.D.Disk u v result
