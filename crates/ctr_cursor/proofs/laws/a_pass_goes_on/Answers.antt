use Rattle.std.proofs.Common.{[], ◌∷◌, Some, refl}
use Rattle.ctr_cursor.specs.Pass.{start, next_position}
use Rattle.ctr_cursor.proofs.Passing.{goes_on, one_way}
use Rattle.ctr_cursor.proofs.laws.a_pass_goes_on.Goals as goal

pub returns-clause-further : goal.returns-clause-further
returns-clause-further c = λ s x y passed goes. goes_on s x (Some y) (next_position s y) passed (y ∷ []) goes (refl, refl)

pub returns-clause-one : goal.returns-clause-one
returns-clause-one c = λ s positions others one two. one_way s (Some start) positions others one two
