use Rattle.std.proofs.Common.{rules, ◌∙◌}
use Rattle.ctr_page.proofs.entry.read_entry.Goals as goal

-- its state is the byte that says it
pub returns-clause-read : goal.returns-clause-read
returns-clause-read c =
    let state = c.from_byte.ensures ∙ c.get_u8.ensures.got in
    search (rules, state)
