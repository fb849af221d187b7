use Rattle.std.proofs.Common.{sym, arith}
use Rattle.ctr_undo.proofs.Read.{entry_named}
use Rattle.ctr_undo.proofs.naming.name_on.Goals as goal

pub name_in-requires-clause-named : goal.name_in-requires-clause-named
name_in-requires-clause-named c =
    rw c.read_entry-table.ensures.read
    (entry_named c.args.counted c.args.entry c.args.page.now (omega arith) (sym c.in_ok-check_entry.ensures.checked))
