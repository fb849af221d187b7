use Rattle.ctr_kept.proofs.Seated.{none_open}
use Rattle.ctr_kept.proofs.recovery.where_nobody_is_inside_none_is_open.Goals as goal

pub returns : goal.returns
returns c = λ r now site w keeps ended none. none_open site w.run w.undo (λ x open_. keeps.scene.undo.0.seated x open_) ended _ (λ s b at. keeps.scene.shown.paged.modelled s b at) none
