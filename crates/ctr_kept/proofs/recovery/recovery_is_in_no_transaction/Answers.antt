use Rattle.std.proofs.Common.{refl}
use Rattle.ctr_kept.specs.Turns.{start_point}
use Rattle.ctr_kept.proofs.Nobody.{none_stays}
use Rattle.ctr_kept.proofs.recovery.recovery_is_in_no_transaction.Goals as goal

pub returns : goal.returns
returns c = λ r now site w keeps some. none_stays r.lines some (start_point r) w.tape keeps.legal refl
