-- A test that answers one fact answers another that holds with it.
use Rattle.std.proofs.Common.{Result, Ok, Err, IfOk, IsTrue, Bool, ◌↔◌}

pub if_ok_iff : {E : Type 0} {A B : Type 0} (r : Result Bool E) → IfOk r (λ yes. IsTrue yes ↔ A) → (A → B) → (B → A) → IfOk r (λ yes. IsTrue yes ↔ B)
if_ok_iff (Ok answer) is there back = (λ t. there (is.0 t), λ b. is.1 (back b))
if_ok_iff (Err e) is there back = tt
