use Rattle.ctr_paged.proofs.Shown.{shown_begun, shown_granted, shown_ended, shown_answered, shown_undoing, shown_grown}
use Rattle.ctr_paged.proofs.laws.a_turn_without_a_record_is_shown.Goals as goal

pub returns-clause-begun : goal.returns-clause-begun
returns-clause-begun c = λ low site a s shown none. shown_begun low site a shown s none

pub returns-clause-granted : goal.returns-clause-granted
returns-clause-granted c = λ low site a s t u shown is_t granted more. shown_granted low site a shown s t u is_t granted more

pub returns-clause-ended : goal.returns-clause-ended
returns-clause-ended c = λ low site a s shown reader. shown_ended low site a shown s reader

pub returns-clause-answered : goal.returns-clause-answered
returns-clause-answered c = λ low site a s k t shown is_t asked more. shown_answered low site a shown s k t is_t asked more

pub returns-clause-undoing : goal.returns-clause-undoing
returns-clause-undoing c = λ low site a s b t shown at is_t. shown_undoing low site a shown s b t at is_t

pub returns-clause-grown : goal.returns-clause-grown
returns-clause-grown c = λ low site a more shown le few. shown_grown low site a shown more le few
