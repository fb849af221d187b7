use Rattle.ctr_heap.proofs.Made.{row_made, zeros_made}
use Rattle.ctr_heap.proofs.rewriting.a_payload_is_of_its_table.Goals as goal

pub returns-clause-row : goal.returns-clause-row
returns-clause-row c = row_made

pub returns-clause-zeros : goal.returns-clause-zeros
returns-clause-zeros c = zeros_made
