use Rattle.ctr_record_laws.proofs.Xids.{in_among}
use Rattle.ctr_names.proofs.Making.{create_set, create_unmade}
use Rattle.ctr_names.proofs.records.a_create_writes_its_name.Goals as goal

pub returns-clause-chain : goal.returns-clause-chain
returns-clause-chain c = λ number counted tables area new x e name columns bounds sound agree owed changes. create_set counted tables area sound number agree x (in_among x tables.opens owed.is_open) new e name columns owed changes bounds

pub returns-clause-unmade : goal.returns-clause-unmade
returns-clause-unmade c = λ counted tables area x e name bounds sound owed. create_unmade tables area e bounds owed.inside owed.free
