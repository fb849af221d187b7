-- A head as contracts see it.
use Rattle.std.specs.Prelude.{ℕ, List}

-- 1 where it is a tombstone, else 0; and the payload, which is zeros of a tombstone.
pub record HeadMade : Type 0 where
  pub tombstone : ℕ
  pub payload : List ℕ
