-- What turns lead to grows by a turn.
use Rattle.std.specs.Prelude.{◌≡◌, [], ◌∷◌, refl}
use Rattle.std.proofs.Common.{subst}
use Rattle.std.proofs.Math.Logic.{∥∥₁_map}
use Rattle.std.proofs.lemmas.Grind.{merely}
use Rattle.ctr_types.specs.declared.tape.Actor.{Actor}
use Rattle.ctr_types.specs.declared.tape.Turn.{Turn}
use Rattle.ctr_workers.specs.Leads.{LeadsByTurns, IsLedFrom}

-- no turn leads from a first state to itself
pub led_at_first : {T : Type 0} (first : T → Type 0) (asked : Actor → Type 0) (took : Actor → Turn → T → T → Type 0) (now : T) → first now → ∥ IsLedFrom first asked took now ∥₁
led_at_first first asked took now is = merely (record { start = now; is_first = is; leads = record { between = []; turns = refl } })

-- a turn more
pub led_by_turn : {T : Type 0} (first : T → Type 0) (asked : Actor → Type 0) (took : Actor → Turn → T → T → Type 0) (old new : T) (actor : Actor) (answer : Turn) → asked actor
    → took actor answer old new → ∥ IsLedFrom first asked took old ∥₁ → ∥ IsLedFrom first asked took new ∥₁
led_by_turn first asked took old new actor answer known turn led = ∥∥₁_map led (λ l. record {
  start = l.start;
  is_first = l.is_first;
  leads = record {
    between = old ∷ l.leads.between;
    turns = (l.leads.turns, record { actor = actor; answer = answer; known = known; turn = turn });
  };
})

-- where there is one first state, turns lead from it
pub leads_from_one : {T : Type 0} (asked : Actor → Type 0) (took : Actor → Turn → T → T → Type 0) (start now : T) → ∥ IsLedFrom (λ t. t ≡ start) asked took now ∥₁ → ∥ LeadsByTurns asked took start now ∥₁
leads_from_one asked took start now led = ∥∥₁_map led (λ l. subst (λ t. LeadsByTurns asked took t now) l.is_first l.leads)
