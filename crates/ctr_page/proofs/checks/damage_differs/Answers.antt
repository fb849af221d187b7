use Rattle.ctr_page.proofs.Differing.{header_differs, slot_differs, kept_differs, entry_differs}
use Rattle.ctr_page.proofs.checks.damage_differs.Goals as goal

pub returns-clause-header : goal.returns-clause-header
returns-clause-header c = header_differs

pub returns-clause-slot : goal.returns-clause-slot
returns-clause-slot c = slot_differs

pub returns-clause-version : goal.returns-clause-version
returns-clause-version c = kept_differs

pub returns-clause-entry : goal.returns-clause-entry
returns-clause-entry c = entry_differs
