-- The logs of a database that was just made: a checkpoint of nothing.
use Rattle.std.specs.Prelude.{◌≡◌, ◌≢◌, ℕ, List, [], ◌∷◌, ◌++◌}
use Rattle.ctr_home.specs.disk_Image.{Image}
use Rattle.ctr_home.specs.bytes_Fields.{spelled}
use Rattle.ctr_log.specs.Logs.{Batches, HasLog}

-- the checkpoint of a database without transactions: tag 1, next xid 1, three empty lists, no
-- overlay
abbrev pub first_checkpoint : List ℕ
first_checkpoint = 1 ∷ (spelled 8 1 ++ spelled 8 0 ++ spelled 8 0 ++ spelled 8 0 ++ 0 ∷ [])

-- the one batch of its log
abbrev pub fresh_log : Batches
fresh_log = (first_checkpoint ∷ []) ∷ []

-- the first gate of a file is closed, or lies past its end
abbrev pub IsClosed : List ℕ → Type 0
IsClosed [] = Unit {0}
IsClosed (gate ∷ rest) = gate ≢ 1

-- what stands before the root is written: the logs of a database that was just made
pub record LogsAreReady (old new : Image) : Type 0 where
  pub root : new.root ≡ old.root
  pub log : HasLog 1 fresh_log new.log_a
  pub other_log : IsClosed new.log_b
  pub pages : new.pages ≡ old.pages

-- the logs have no batch, and the other files are as they were
pub record AreEmptied (old new : Image) : Type 0 where
  pub root : new.root ≡ old.root
  pub log : (rest : List ℕ) × (new.log_a ≡ 0 ∷ rest)
  pub other_log : IsClosed new.log_b
  pub pages : new.pages ≡ old.pages

-- the root and the pages are as they were
abbrev pub SameRoot : Image → Image → Type 0
SameRoot old new = (new.root ≡ old.root) × (new.pages ≡ old.pages)
