use Rattle.ctr_record_laws.proofs.Bounds.{pages_bounded}
use Rattle.ctr_record_laws.proofs.shows.pages_are_in_bounds.Goals as goal

pub returns : goal.returns
returns c = pages_bounded
