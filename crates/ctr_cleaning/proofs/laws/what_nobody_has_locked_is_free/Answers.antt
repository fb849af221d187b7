use Rattle.std.proofs.Common.{◌≡◌, true, false, Option, refl, sym, ◌∙◌, subst}
use Rattle.std.proofs.lemmas.Bool.{false≢true}
use Rattle.ctr_model.specs.declared.state.Transaction.{Transaction}
use Rattle.ctr_model.specs.Refusals.{has_lock}
use Rattle.ctr_locks.specs.Held.{held_by_session}
use Rattle.ctr_locks.specs.Shows.{HasTheSame, IsTheSame}
use Rattle.ctr_cleaning.proofs.laws.what_nobody_has_locked_is_free.Goals as goal

pub returns : goal.returns
returns c = λ name_of locks state e key shows inside unlocked s t at.
    let has : HasTheSame name_of (held_by_session s locks) t = subst (λ (o : Option Transaction). IsTheSame name_of (held_by_session s locks) o) at (shows s) in
    let never : has_lock (name_of e) key t ≡ true → ⊥ = λ lock. let its = has.locked (name_of e) key lock in false≢true (sym (unlocked its.entry s (inside its.entry s key its.locked) its.named) ∙ its.locked) in
    elim (has_lock (name_of e) key t) as (λ b. has_lock (name_of e) key t ≡ b → b ≡ false) [
      | true ↦ λ is. absurd (never is)
      | false ↦ λ is. refl
    ] refl
