use Rattle.ctr_names.proofs.Unmaking.{uncreate_takes, undrop_takes}
use Rattle.ctr_names.proofs.records.an_undone_item_takes_its_version.Goals as goal

pub returns-clause-created : goal.returns-clause-created
returns-clause-created c = λ counted tables area x e bounds sound owed. uncreate_takes counted tables area sound x e owed bounds

pub returns-clause-dropped : goal.returns-clause-dropped
returns-clause-dropped c = λ counted tables area x e bounds sound owed. undrop_takes counted tables area sound x e owed bounds
