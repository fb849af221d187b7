use Rattle.ctr_cleaner.specs.Finding.{IsFreeRow}
use Rattle.ctr_cleaner.proofs.Found.{found_less, found_alone, found_grown}
use Rattle.ctr_cleaner.proofs.laws.what_is_found_stays.Goals as goal

pub returns-clause-locked : goal.returns-clause-locked
returns-clause-locked c = λ locks more low x s. found_less (IsFreeRow locks s) (IsFreeRow more s) low x s

pub returns-clause-alone : goal.returns-clause-alone
returns-clause-alone c = λ locks low x s. found_alone locks low x s

pub returns-clause-grown : goal.returns-clause-grown
returns-clause-grown c = λ locks low more x s. found_grown (IsFreeRow locks s) low more x s

pub returns-clause-grown_alone : goal.returns-clause-grown_alone
returns-clause-grown_alone c = λ low more x s. found_grown (λ e key. Unit {0}) low more x s
