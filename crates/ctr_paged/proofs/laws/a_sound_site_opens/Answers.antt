use Rattle.ctr_paged.proofs.Opening.{shown_opened}
use Rattle.ctr_paged.proofs.laws.a_sound_site_opens.Goals as goal

pub returns : goal.returns
returns c = λ site bounds few sound some. shown_opened site bounds few sound some
