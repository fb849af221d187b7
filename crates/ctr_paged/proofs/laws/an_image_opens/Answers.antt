use Rattle.ctr_actions.specs.ctr_record_effects.States.{pages_in}
use Rattle.ctr_actions.proofs.record_laws_Bounds.{pages_bounded}
use Rattle.ctr_actions.specs.Sites.{site_of}
use Rattle.ctr_paged.proofs.Opening.{shown_opened}
use Rattle.ctr_paged.proofs.laws.an_image_opens.Goals as goal

pub returns : goal.returns
returns c = λ image s stands. shown_opened (site_of s) (pages_bounded (pages_in s)) stands.sound.few stands.sound.sound stands.sound.some
