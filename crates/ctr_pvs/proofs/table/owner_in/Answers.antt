use Rattle.std.proofs.Common.{◌<◌, ◌≤◌, ℕ, sym, ◌∙◌, arith}
use Rattle.ctr_page.proofs.Holding.{most_ok}
use Rattle.ctr_pvs.proofs.table.owner_in.Goals as goal

pub returns-clause-few : goal.returns-clause-few
returns-clause-few c = below c.read_header-header.result.entry (most_ok 1 31 c.read_header-header.result.entry (sym c.at_most.ensures ∙ c.in_ok-at_most.was))
  where
    below : (n : ℕ) → n ≤ 31 → n < 32
    below n le = omega (arith, le)
