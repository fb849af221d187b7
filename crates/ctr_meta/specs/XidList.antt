-- A list of transactions as it is kept.
use Rattle.std.specs.Prelude.{ℕ, List}

-- Each transaction with its heads, in the order in which they were added, and how many more can be
-- added without memory.
pub record XidList : Type 0 where
  pub entries : List (ℕ × ℕ)
  pub spare : ℕ
