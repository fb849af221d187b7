-- Bytes that were read ahead.
use Rattle.std.specs.Prelude.{◌≡◌, ◌≤◌, ◌+◌, ◌-◌, ℕ, List, Bool, true, false, Option, None, Some, length, take, drop}
use Rattle.ctr_types.specs.declared.file.File.{File}
use Rattle.ctr_file.specs.declared.ahead.Ahead.{Ahead}

-- nothing was read ahead
abbrev pub has_none : Ahead → Bool
has_none ahead = is_none ahead.of
  where
    is_none : Option File → Bool
    is_none None = true
    is_none (Some _) = false

-- The bytes are those that a file has from a place on, of what was read ahead: each of them was.
pub record IsPart (file : File) (at : ℕ) (ahead : Ahead) (bytes : List ℕ) : Type 0 where
  pub of : ahead.of ≡ Some file
  pub low : ahead.at ≤ at
  pub high : at + length bytes ≤ ahead.at + length ahead.bytes.items
  pub same : bytes ≡ take (length bytes) (drop (at - ahead.at) ahead.bytes.items)
