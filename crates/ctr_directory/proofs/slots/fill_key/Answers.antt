use Rattle.std.proofs.Common.{sym, subst, Option, OnOk, Some, rules}
use Rattle.std.specs.Prelude.{ℤ, FitsSigned}
use Rattle.std.specs.Int.{w64}
use Rattle.std.proofs.lemmas.Int.{to_z-of_z}
use Rattle.ctr_directory.specs.Keys.{KeysLead, with_key}
use Rattle.ctr_directory.proofs.slots.fill_key.Goals as goal

pub returns-in-Some : goal.returns-in-Some
returns-in-Some c keys leads none =
    let fits : FitsSigned w64 c.in-Some.key = search rules in
    subst (λ (k : Option ℤ). OnOk c.add_key.result (KeysLead (with_key c.args.at k keys) c.add_key.new.places)) (sym c.in-Some.is)
    (subst (λ (z : ℤ). OnOk c.add_key.result (KeysLead (with_key c.args.at (Some z) keys) c.add_key.new.places)) (to_z-of_z w64 c.in-Some.key fits) (c.add_key.ensures keys leads none))
