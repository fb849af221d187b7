use Rattle.ctr_area.proofs.Made.{new_entry_made}
use Rattle.ctr_area.proofs.laws.entry_is_made.Goals as goal

pub returns : goal.returns
returns c = λ pages e creator name cs few whole drawn short fits. new_entry_made creator name cs drawn short fits pages e few whole
