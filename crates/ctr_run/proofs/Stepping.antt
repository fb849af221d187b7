-- Turns under the lock are steps of the World there.
use Rattle.std.proofs.Common.{ℕ, List, [], ◌∷◌, map, ap}
use Rattle.ctr_types.specs.declared.tape.Actor.{Actor}
use Rattle.ctr_types.specs.declared.tape.Turn.{Turn}
use Rattle.ctr_types.specs.declared.tape.Actor.TheVariants as actor
use Rattle.ctr_workers.specs.Leads.{GoesByAskedTurns, LeadsByTurns}
use Rattle.ctr_workers.specs.Workers.{IsActor, IsAskedFor}

-- Turns that are such in a part lead on in that part.
module _ {T U : Type 0} (part : T → U) (asked such : Actor → Type 0) (took : Actor → Turn → T → T → Type 0) (steps : Actor → Turn → U → U → Type 0) (are : (a : Actor) → asked a → such a)
    (each : (a : Actor) (t : Turn) (x y : T) → took a t x y → steps a t (part x) (part y)) where
  goes_in_part : (between : List T) (x y : T) → GoesByAskedTurns asked took between x y → GoesByAskedTurns such steps (map part between) (part x) (part y)
  goes_in_part [] x y same = ap part same
  goes_in_part (last ∷ before) x y goes = (
    goes_in_part before x last goes.0,
    record { actor = goes.1.actor; answer = goes.1.answer; known = are goes.1.actor goes.1.known; turn = each goes.1.actor goes.1.answer last y goes.1.turn },
  )

  pub leads_in_part : (x y : T) → LeadsByTurns asked took x y → LeadsByTurns such steps (part x) (part y)
  leads_in_part x y leads = record { between = map part leads.between; turns = goes_in_part leads.between x y leads.turns }

pub asked_are_actors : (sessions : ℕ) (a : Actor) → IsAskedFor sessions a → IsActor a
asked_are_actors sessions (actor.Session s) asked = asked.0
asked_are_actors sessions actor.Flusher asked = tt
asked_are_actors sessions actor.Cleaner asked = tt
asked_are_actors sessions actor.Undo asked = tt
