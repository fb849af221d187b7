-- Checks of a file's bytes that failed.
use Rattle.std.specs.Prelude.{ℕ}
use Rattle.ctr_types.specs.declared.file.Damage.{Damage}
use Rattle.ctr_types.specs.declared.file.File.{File}

-- damage of a file at a byte, where something is wanted and something else is there
abbrev pub damage_of : File → ℕ → ℕ → ℕ → Damage
damage_of file at want got = record { file = file; at = at; want = want; got = got }
