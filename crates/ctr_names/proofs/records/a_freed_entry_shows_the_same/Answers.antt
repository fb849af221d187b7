use Rattle.ctr_names.proofs.Agree.{freed_same}
use Rattle.ctr_names.proofs.records.a_freed_entry_shows_the_same.Goals as goal

pub returns : goal.returns
returns c = freed_same
