use Rattle.ctr_names.proofs.Held.{name_alone}
use Rattle.ctr_names.proofs.keeping.a_held_name_is_alone.Goals as goal

pub returns : goal.returns
returns c = name_alone
