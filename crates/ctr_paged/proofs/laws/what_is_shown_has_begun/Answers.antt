use Rattle.ctr_paged.proofs.Begun.{begun_shows}
use Rattle.ctr_paged.proofs.laws.what_is_shown_has_begun.Goals as goal

pub returns : goal.returns
returns c = λ low site a since shown since_is drawn. begun_shows low site a.run a.state since shown.paged since_is drawn
