use Rattle.std.proofs.Common.{refl}
use Rattle.ctr_record_laws.specs.area_Images.{is_committed_in}
use Rattle.ctr_names.proofs.Names.{rows_shown, is_ordered, own_tables}
use Rattle.ctr_names.proofs.owners.the_rows_of_an_image_are_shown.Goals as goal

pub returns-clause-rows : goal.returns-clause-rows
returns-clause-rows c = λ counted tables area sound. rows_shown (is_committed_in tables) refl area sound.names.standing

pub returns-clause-order : goal.returns-clause-order
returns-clause-order c = λ counted tables area sound. is_ordered (is_committed_in tables) refl area sound.names.standing

pub returns-clause-tables : goal.returns-clause-tables
returns-clause-tables c = own_tables
