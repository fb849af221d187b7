-- What turns lead to, one after another.
use Rattle.std.specs.Prelude.{◌≡◌, List, [], ◌∷◌}
use Rattle.ctr_types.specs.declared.tape.Actor.{Actor}
use Rattle.ctr_types.specs.declared.tape.Turn.{Turn}

-- A turn of an actor that was asked for, with its answer, leads from one state to another; `took`
-- says which do.
pub record TakesAskedTurn {T : Type 0} (asked : Actor → Type 0)
    (took : Actor → Turn → T → T → Type 0) (old new : T) : Type 0 where
  pub actor : Actor
  pub answer : Turn
  pub known : asked actor
  pub turn : took actor answer old new

-- Such turns, one after another; given are the states between, the latest first.
abbrev pub GoesByAskedTurns : {T : Type 0} → (Actor → Type 0) → (Actor → Turn → T → T → Type 0)
    → List T → T → T → Type 0
GoesByAskedTurns asked took [] old new = new ≡ old
GoesByAskedTurns asked took (last ∷ before) old new =
    GoesByAskedTurns asked took before old last × TakesAskedTurn asked took last new

-- Turns lead from one state to another, and nothing else came between them.
pub record LeadsByTurns {T : Type 0} (asked : Actor → Type 0)
    (took : Actor → Turn → T → T → Type 0) (old new : T) : Type 0 where
  pub between : List T
  pub turns : GoesByAskedTurns asked took between old new

-- Turns lead here from one of these states.
pub record IsLedFrom {T : Type 0} (first : T → Type 0) (asked : Actor → Type 0)
    (took : Actor → Turn → T → T → Type 0) (now : T) : Type 0 where
  pub start : T
  pub is_first : first start
  pub leads : LeadsByTurns asked took start now
