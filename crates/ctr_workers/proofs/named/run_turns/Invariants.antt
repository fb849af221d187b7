use Rattle.ctr_workers.proofs.named.run_turns.Given as goal
use Rattle.std.specs.Prelude.{◌≡◌}
use Rattle.ctr_workers.specs.Workers.{IsAskedFor}

abbrev pub ghosts-run_named : goal.ghosts-run_named
ghosts-run_named g a = record { first = λ t. t ≡ a.turns; asked = IsAskedFor a.sessions }
