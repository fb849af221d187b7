use Rattle.ctr_paged.proofs.Opened.{image_shows}
use Rattle.ctr_paged.proofs.Opening.{shown_reopened}
use Rattle.ctr_paged.proofs.laws.the_image_is_what_asked.Goals as goal

pub returns-clause-rows : goal.returns-clause-rows
returns-clause-rows c = λ low site a shown. image_shows low site a.run a.state shown.paged

pub returns-clause-opens : goal.returns-clause-opens
returns-clause-opens c = λ low site a shown. shown_reopened low site a shown
