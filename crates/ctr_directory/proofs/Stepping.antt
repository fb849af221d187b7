-- A list whose elements get another property in turn.
use Rattle.std.proofs.Common.{◌≢◌, ℕ, ◌+◌, List, set, sym, subst, arith}
use Rattle.std.specs.List.{AllWithin}
use Rattle.std.proofs.lemmas.List.{get_or-set_other}

-- those behind one that is set
pub rest_behind : {X : Type 0} (P : X → Type 0) (xs : List X) (i count : ℕ) (v : X) → AllWithin P xs i count → AllWithin P (set xs i v) (i + 1) count
rest_behind P xs i count v rest k d low high =
    let apart : k ≢ i = omega (arith, low) in
    subst P (sym (get_or-set_other xs i k v d apart)) (rest k d (omega (arith, low)) high)
