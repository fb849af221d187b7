-- What follows from three facts of a call that did.
use Rattle.std.proofs.Common.{Result, Ok, Err}
use Rattle.std.specs.Prelude.{OnOk}

pub three_ok : {T E : Type 0} (result : Result T E) {P Q R S : Type 0} → (P → Q → R → S) → OnOk result P → OnOk result Q → OnOk result R → OnOk result S
three_ok (Ok x) f p q r = f p q r
three_ok (Err e) f p q r = tt
