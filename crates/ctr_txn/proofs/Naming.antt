-- What live snapshots name, session by session.
use Rattle.std.proofs.Common.{◌≡◌, ℕ, ◌+◌, true, false, List, ◌∷◌, ◌++◌, Option, Some, ap}
use Rattle.std.specs.Prelude.{if◌then◌else◌}
use Rattle.ctr_snap.specs.Seeing.{named}
use Rattle.ctr_versions.specs.Laws.{sessions_named}
use Rattle.ctr_txn.specs.Held.{TxnHeld, held_from}

pub named_undoing : (n : ℕ) (t : TxnHeld) (rest : List (Option TxnHeld)) → t.session.undoing ≡ true → sessions_named (held_from n (Some t ∷ rest)) ≡ sessions_named (held_from (n + 1) rest)
named_undoing n t rest is = ap (λ b. if b then sessions_named (held_from (n + 1) rest) else named t.session.snapshot ++ sessions_named (held_from (n + 1) rest)) is

pub named_live : (n : ℕ) (t : TxnHeld) (rest : List (Option TxnHeld)) → t.session.undoing ≡ false → sessions_named (held_from n (Some t ∷ rest)) ≡ named t.session.snapshot ++ sessions_named (held_from (n + 1) rest)
named_live n t rest is = ap (λ b. if b then sessions_named (held_from (n + 1) rest) else named t.session.snapshot ++ sessions_named (held_from (n + 1) rest)) is
