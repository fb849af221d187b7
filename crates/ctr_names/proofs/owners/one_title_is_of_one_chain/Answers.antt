use Rattle.std.proofs.Common.{refl}
use Rattle.ctr_record_laws.specs.area_Changes.{with_title}
use Rattle.ctr_record_laws.specs.area_Images.{name_chain}
use Rattle.ctr_names.proofs.Catalog.{title_set}
use Rattle.ctr_names.proofs.owners.one_title_is_of_one_chain.Goals as goal

pub returns : goal.returns
returns c = λ committed area e title name apart. title_set committed area e title name (name_chain committed (with_title e title area).title name) refl apart
