-- What was changed since a snapshot, of what is answered.
use Rattle.std.proofs.Common.{◌≡◌, ℕ, zero, suc, ◌+◌, ◌≤◌, cond, List, [], ◌∷◌, length, Option, Some, None, refl, sym, ◌∙◌, subst}
use Rattle.std.specs.Prelude.{take, drop, is_some}
use Rattle.std.specs.List.{AllByRecursion}
use Rattle.std.specs.Option.{option_or}
use Rattle.std.proofs.lemmas.List.{length-map}
use Rattle.ctr_model.specs.declared.state.State.{State}
use Rattle.ctr_model.specs.declared.state.Transaction.{Transaction}
use Rattle.ctr_model.specs.Refusals.{schema_changed_by}
use Rattle.ctr_versions.specs.Chains.{IsUnwritten, changed_since, last_write}
use Rattle.ctr_versions.specs.Keys.{left_by, schema_change, schema_writes}
use Rattle.ctr_versions.proofs.Chains.{settled}
use Rattle.ctr_versions.proofs.Conflicts.{none_of_both, schema_changed}

-- the first of them have no write where all have none
few_none : {V : Type 0} (k a : ℕ) (ws : List (Option (Option V))) → last_write k ws ≡ None → last_write k (take a ws) ≡ None
few_none k zero ws none = refl
few_none k (suc a) [] none = refl
few_none k (suc a) (w ∷ ws) none =
    let parts = none_of_both (last_write (k + 1) ws) (is_some w) k none in
    λ i. option_or (few_none (k + 1) a ws parts.0 i) (cond (parts.1 i) (Some k) None)

taken_none : {V : Type 0} (k n a : ℕ) (ws : List (Option (Option V))) → last_write k (drop n ws) ≡ None → last_write k (drop n (take a ws)) ≡ None
taken_none k zero a ws none = few_none k a ws none
taken_none k (suc n) zero ws none = refl
taken_none k (suc n) (suc a) [] none = refl
taken_none k (suc n) (suc a) (w ∷ ws) none = taken_none k n a ws none

-- where the table of a name wasn't changed, no answered commit changed it
pub schema_unchanged : (state : State) (t : Transaction) (name : List ℕ) → changed_since t.snapshot (schema_writes name state.asked) ≡ None → schema_changed_by state t name ≡ None
schema_unchanged state t name quiet = schema_changed state t name ∙ taken_none (t.snapshot + 1) t.snapshot state.answered (schema_writes name state.asked) quiet

-- where nobody who asked and isn't answered has changed it, those that are answered tell
pub schema_settled : (state : State) (t : Transaction) (name : List ℕ) → t.snapshot ≤ state.answered → state.answered ≤ length state.asked → AllByRecursion IsUnwritten (drop state.answered (schema_writes name state.asked))
    → schema_changed_by state t name ≡ changed_since t.snapshot (schema_writes name state.asked)
schema_settled state t name le within all =
    schema_changed state t name
    ∙ settled (schema_writes name state.asked) t.snapshot state.answered le (subst (λ n. state.answered ≤ n) (sym (length-map state.asked (left_by (schema_change name)))) within) all
