use Rattle.std.proofs.Common.{⊎_elim, ◌∙◌}
use Rattle.ctr_actions.specs.ctr_record_effects.States.{pages_in}
use Rattle.ctr_actions.proofs.record_laws_Bounds.{pages_bounded}
use Rattle.ctr_actions.specs.Sites.{site_of}
use Rattle.ctr_actions.specs.Facts.{HasBlank, IsBeside}
use Rattle.ctr_actions.proofs.Beside.{beside_blank}
use Rattle.ctr_passed.proofs.Pagewise.{page_by_page}
use Rattle.ctr_passed.proofs.OwnPage.{own_page}
use Rattle.ctr_passed.proofs.own.an_own_page_stays_blank.Goals as goal

pub returns : goal.returns
returns c = λ x y p h a s t sound does lies mine who blank.
    let bounds = pages_bounded (pages_in s) in
    let beside : IsBeside a (HasBlank p h) = ⊎_elim (λ b. b) (λ apart. beside_blank x y p (site_of s) bounds sound.sound apart mine a h does.owed) who in
    own_page x y p h (site_of s) bounds sound.sound (pages_in s) (pages_in t) (page_by_page s.counted (pages_in s) sound.passed) mine a does.owed beside lies ∙ blank
