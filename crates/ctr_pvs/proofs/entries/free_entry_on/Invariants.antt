use Rattle.ctr_page.specs.Columns.{kinds_width}
use Rattle.ctr_page.specs.Searching.{PassesBy}
use Rattle.ctr_pvs.specs.Entries.{checks_version, is_free_version}
use Rattle.ctr_pvs.proofs.entries.free_entry_on.Given as goal

abbrev pub invariant-loop-number : goal.invariant-loop-number
invariant-loop-number l =
    PassesBy (checks_version l.kinds l.counted l.page) (is_free_version (kinds_width l.kinds) l.page) 0 l.number
