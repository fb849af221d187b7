use Rattle.ctr_record_laws.proofs.Xids.{in_among}
use Rattle.ctr_names.proofs.Making.{drop_set}
use Rattle.ctr_names.proofs.records.a_drop_writes_its_name.Goals as goal

pub returns : goal.returns
returns c = λ number counted tables area x e sound agree owed. drop_set counted tables area sound number agree x (in_among x tables.opens owed.is_open) e owed
