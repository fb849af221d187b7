use Rattle.std.proofs.Common.{sym, subst}
use Rattle.ctr_model.specs.State.{view}
use Rattle.ctr_wishes.specs.Models.{IsModels}
use Rattle.ctr_wishes.proofs.Unrefused.{granted_sees, replied}
use Rattle.ctr_wishes.proofs.laws.what_is_prepared_stays_the_models.Goals as goal

pub returns-clause-granted : goal.returns-clause-granted
returns-clause-granted c = λ state s t columns statement p models.
    subst (λ db. IsModels db columns statement p) (sym (granted_sees state s t statement)) models

pub returns-clause-others : goal.returns-clause-others
returns-clause-others c = λ lines at es s t columns statement p sound is others models.
    subst (λ db. IsModels db columns statement p) (sym (c.snapshots_stay.ensures lines at es s t sound is others).sees) models

pub returns-clause-reply : goal.returns-clause-reply
returns-clause-reply c = λ state s t columns statement p models. replied (view state t) columns statement p models
