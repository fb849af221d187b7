use Rattle.ctr_cursor.proofs.Leads.{slot_place, older_place, leads, within}
use Rattle.ctr_cursor.proofs.laws.a_pass_goes_from_position_to_position.Goals as goal

pub returns-clause-leads : goal.returns-clause-leads
returns-clause-leads c = λ s x y database its is. leads s database x y its is

pub returns-clause-within : goal.returns-clause-within
returns-clause-within c = λ s x database its. within s database x its

pub returns-clause-slots : goal.returns-clause-slots
returns-clause-slots c = λ s e bucket at its. slot_place s.area e bucket at its.1

pub returns-clause-kept : goal.returns-clause-kept
returns-clause-kept c = λ s e at its. older_place s.area e at its.1
