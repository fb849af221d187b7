use Rattle.ctr_names.proofs.Held.{open_holds}
use Rattle.ctr_names.proofs.keeping.recovery_keeps_the_names_of_items.Goals as goal

pub returns : goal.returns
returns c = open_holds
