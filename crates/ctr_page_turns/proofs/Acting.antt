-- A record that is laid as an action is that action.
use Rattle.std.proofs.Common.{◌≡◌, ℕ, [], ◌∷◌, sym, subst}
use Rattle.ctr_rec.specs.declared.record.Record.{Record}
use Rattle.ctr_passed.specs.redo_States.{State}
use Rattle.ctr_walk.specs.record_effects_States.{pages_in, area_in}
use Rattle.ctr_walk.specs.store_Store.{View, Logs}
use Rattle.ctr_passed.specs.actions_Sites.{site_of}
use Rattle.ctr_passed.specs.actions_Actions.{Action, Owes, site_after}
use Rattle.ctr_passed.specs.Laid.{LiesAs, LaidPasses}
use Rattle.ctr_passed.specs.Logged.{IsLaidAs}
use Rattle.ctr_page_turns.specs.Acts.{ActsBy}

pub acts_so : {D : Type 0} (x : ℕ) (a : Action) (r : Record) (v w : View D) → Logs (r ∷ []) v w → Owes x a (site_of v.now) → site_of w.now ≡ site_after x a (site_of v.now) → IsLaidAs a r v.now → ActsBy x a v.now w.now
acts_so x a r v w logs owed leaves laid = record {
  does = record { owed = owed; leaves = leaves };
  lies = subst (λ (t : State). LiesAs a (area_in v.now) (pages_in v.now) (pages_in t)) (sym logs.now) laid.0;
  passes = subst (λ (t : State). LaidPasses a t.counted (area_in t) (pages_in t)) (sym logs.now) laid.1;
}
