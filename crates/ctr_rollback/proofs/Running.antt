-- The transactions of sessions over a turn of a rollback.
use Rattle.std.proofs.Common.{◌≡◌, ℕ, ◌-◌, ◌<◌, length, Some, None, ◌∙◌, ap, arith}
use Rattle.std.specs.Prelude.{get_or}
use Rattle.std.proofs.lemmas.List.{get_or-set_same}
use Rattle.ctr_txn.specs.Held.{TxnsHeld, IsOneOfEight, IsWriting}
use Rattle.ctr_txn.specs.Steps.{SetsTxn, txn_undoing}

-- a session within its rollback can go on with it
pub writing_still : (s : ℕ) (old new : TxnsHeld) → IsOneOfEight s → length old.sessions ≡ 8 → (w : IsWriting s old) → SetsTxn s (Some (txn_undoing w.t)) old new → IsWriting s new
writing_still s old new one eight w sets = record {
  t = txn_undoing w.t;
  there = ap (λ xs. get_or xs (s - 1) None) sets.sessions ∙ get_or-set_same old.sessions (s - 1) (Some (txn_undoing w.t)) None (inside (length old.sessions) eight);
  some = w.some;
  unasked = w.unasked;
}
  where
    inside : (n : ℕ) → n ≡ 8 → s - 1 < n
    inside n is = let from = one.from in let to = one.to in omega (arith, from, to, is)
