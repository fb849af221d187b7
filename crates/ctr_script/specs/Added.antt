-- The first line of bytes.
use Rattle.std.specs.Prelude.{◌≡◌, ℕ, ◌+◌, ◌<◌, List, ◌∷◌, ◌++◌, length, take, drop}
use Rattle.ctr_model.specs.Grammar.{HasNoEnd}

-- the bytes begin with a line of n bytes, and its end
abbrev pub IsFirstLine : List ℕ → ℕ → Type 0
IsFirstLine bytes n = (n < length bytes) × HasNoEnd (take n bytes)
    × (bytes ≡ take n bytes ++ 10 ∷ drop (n + 1) bytes)
