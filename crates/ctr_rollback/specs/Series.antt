-- All turns of a rollback, with those of others between.
use Rattle.std.specs.Prelude.{◌≡◌, ◌≢◌, ◌⊎◌, ℕ, ◌+◌, ◌≤◌, Bool, true, false, List, [], ◌∷◌, if◌then◌else◌}
use Rattle.ctr_area.specs.Chains.{pages_bound}
use Rattle.ctr_page_turns.specs.redo_States.{State, counting}
use Rattle.ctr_page_turns.specs.actions_Actions.{Action}
use Rattle.ctr_page_turns.specs.Acts.{ActsBy}
use Rattle.ctr_rollback.specs.declared.rolling.Rolled.TheVariants.{Undone}
use Rattle.ctr_rollback.specs.Rolling.{RollsTo}

-- Another's turn: one acts that has another number; or more pages are counted.
abbrev pub IsAnothers : ℕ → State → State → Type 0
IsAnothers x s t = ((y : ℕ) × (a : Action) × (x ≢ y) × ActsBy y a s t)
    ⊎ ((more : ℕ) × (s.counted ≤ more) × (more ≤ pages_bound) × (t ≡ counting more s))

-- a turn is another's, or it is the transaction's, and undoes an item
abbrev pub LeadsBy : Bool → ℕ → State → State → Type 0
LeadsBy true x s t = RollsTo x s t Undone
LeadsBy false x s t = IsAnothers x s t

-- Turns one behind another lead from a state to another one: for each it is told whether it is the
-- transaction's, and then it undoes an item.
abbrev pub LeadOn : ℕ → List Bool → State → State → Type 0
LeadOn x [] s t = t ≡ s
LeadOn x (its ∷ rest) s t = (u : State) × LeadsBy its x s u × LeadOn x rest u t

-- how many of them are the transaction's
abbrev pub its_turns : List Bool → ℕ
its_turns [] = 0
its_turns (its ∷ rest) = (if its then 1 else 0) + its_turns rest
