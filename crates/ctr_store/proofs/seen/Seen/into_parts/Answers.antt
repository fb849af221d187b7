use Rattle.std.proofs.Common.{subst}
use Rattle.std.specs.Prelude.{◌≡◌, IsTrue}
use Rattle.ctr_store.specs.RecordChecks.{SeenLog, AllPass, CountsPages, tables_seen}
use Rattle.ctr_store.proofs.seen.Seen.into_parts.Goals as goal

pub returns-clause-passed : goal.returns-clause-passed
returns-clause-passed g c =
    let inv = c.self.invariant in
    subst (λ (s : SeenLog). AllPass s.pages s.visits × (s.tables ≡ tables_seen s.visits) × (IsTrue g.D.Disk.tells → CountsPages g.O.Origin.first s.pages)) c.self.view_is (inv.passed, inv.tables, inv.counts)
