-- Names of tables and columns.
use Rattle.std.specs.Prelude.{ℕ, ◌<◌, ◌≤◌, List, length}

-- a name has 1 to 16 bytes
abbrev pub IsName : List ℕ → Type 0
IsName bytes = (0 < length bytes) × (length bytes ≤ 16)
