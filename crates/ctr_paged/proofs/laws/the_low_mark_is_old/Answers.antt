use Rattle.ctr_paged.proofs.Shown.{shown_marked}
use Rattle.ctr_paged.proofs.laws.the_low_mark_is_old.Goals as goal

pub returns : goal.returns
returns c = λ low site a shown. shown_marked low site a shown
