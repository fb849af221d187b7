use Rattle.std.proofs.Common.{ℕ, subst}
use Rattle.ctr_pvs.specs.redo_States.{State}
use Rattle.ctr_record_effects.specs.States.{area_in}
use Rattle.ctr_record_laws.specs.Owed.{OwedByTrim, OwedByCut, OwedByDying}
use Rattle.ctr_actions.specs.Sites.{site_of}
use Rattle.ctr_actions.specs.Actions.{Action, Begins, Allocates, Formats, Links, LinksOlder, Keeps, Writes, Creates, Drops, Commits, Frees, Uncreates, Undrops, Aborts, Reclaims, Reverts, Trims, Cuts, FreesOlder, MakesDead, Unlinks, UnlinksOlder, FreesEntry, Forgets, Checkpoints, Owes}
use Rattle.ctr_actions.specs.Cleaning.{IsCleaning}
use Rattle.ctr_clean.specs.Choosing.{passes_below}
use Rattle.ctr_clean.specs.Steps.{Locks, IsFreeOf}
use Rattle.ctr_clean.specs.Passing.{HasNoStep, HasStep}
use Rattle.ctr_clean.proofs.Listed.{place_in_map}
use Rattle.ctr_clean.proofs.laws.nothing_is_left_to_clean.Goals as goal

left : (low : ℕ) (locks : Locks) (s : State) (a : Action) → HasNoStep low locks s → HasStep a → IsFreeOf locks a (site_of s) → IsCleaning (passes_below low s.tables) a (site_of s) → Owes 0 a (site_of s) → ⊥
left low locks s (Reverts e at way) none step free cleaning owed = none.heads e at free way owed
left low locks s (Trims test e at way) none step free cleaning owed = none.slots e at cleaning.1 free way (subst (λ t. OwedByTrim t s.tables (area_in s) e at way) cleaning.0 owed)
left low locks s (FreesOlder e q) none step free cleaning owed = none.older e q cleaning free owed
left low locks s (MakesDead test e) none step free cleaning owed = none.tables e (subst (λ t. OwedByDying t s.tables (area_in s) e) cleaning owed)
left low locks s (Reclaims p) none step free cleaning owed = none.free p owed
left low locks s (Forgets y) none step free cleaning owed =
    let there = place_in_map s.tables.aborted y owed.gone in
    none.aborted there.0 y there.1 there.2 owed
left low locks s (Cuts test e at q) none step free cleaning owed = none.chains e at cleaning.1 free q (subst (λ t. OwedByCut t (area_in s) e at q) cleaning.0 owed)
left low locks s (Unlinks p e b) none step free cleaning owed = absurd step
left low locks s (UnlinksOlder p e) none step free cleaning owed = absurd step
left low locks s (FreesEntry e title area) none step free cleaning owed = absurd step
left low locks s Begins none step free cleaning owed = absurd cleaning
left low locks s (Allocates p) none step free cleaning owed = absurd cleaning
left low locks s (Formats p h) none step free cleaning owed = absurd cleaning
left low locks s (Links p e b) none step free cleaning owed = absurd cleaning
left low locks s (LinksOlder p e) none step free cleaning owed = absurd cleaning
left low locks s (Keeps e at older) none step free cleaning owed = absurd cleaning
left low locks s (Writes m) none step free cleaning owed = absurd cleaning
left low locks s (Creates e name columns area) none step free cleaning owed = absurd cleaning
left low locks s (Drops e) none step free cleaning owed = absurd cleaning
left low locks s Commits none step free cleaning owed = absurd cleaning
left low locks s (Frees p) none step free cleaning owed = absurd cleaning
left low locks s (Uncreates e) none step free cleaning owed = absurd cleaning
left low locks s (Undrops e) none step free cleaning owed = absurd cleaning
left low locks s Aborts none step free cleaning owed = absurd cleaning
left low locks s (Checkpoints lists) none step free cleaning owed = absurd cleaning

pub returns : goal.returns
returns c = left
