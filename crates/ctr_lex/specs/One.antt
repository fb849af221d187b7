-- The longest token that some bytes begin with.
use Rattle.std.specs.Prelude.{◌≡◌, ℕ, ◌≤◌, List, ◌++◌, length, take}
use Rattle.ctr_model.specs.Grammar.{IsToken}

-- the first n bytes are a token, and no more of them are
pub record IsLongestToken (bytes : List ℕ) (n : ℕ) : Type 0 where
  pub within : n ≤ length bytes
  pub token : IsToken (take n bytes)
  pub most : (t after : List ℕ) → bytes ≡ t ++ after → IsToken t → length t ≤ n
