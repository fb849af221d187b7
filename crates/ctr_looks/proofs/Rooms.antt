-- Room that is taken leaves a session in its transaction, and a number that is drawn behind it is drawn behind what was before.
use Rattle.std.proofs.Common.{◌≡◌, inl, inr, ℕ, Option, Some, None, refl, sym, ◌∙◌, ap, subst}
use Rattle.std.specs.Prelude.{IsSome, is_some}
use Rattle.std.specs.Option.{option_map}
use Rattle.std.specs.Ordering.{nat_cmp}
use Rattle.std.specs.FinMap.Entries.{find}
use Rattle.std.proofs.lemmas.Bool.{false≢true}
use Rattle.ctr_disk.specs.declared.disk.Disk.{Ghosts}
use Rattle.ctr_meta.specs.Kept.{TablesKept}
use Rattle.ctr_store.specs.Store.{View}
use Rattle.ctr_session_world.specs.paged_Paged.{Run}
use Rattle.ctr_versions.specs.Engine.{SessionHeld}
use Rattle.ctr_session_world.specs.txn_Held.{TxnHeld, TxnsHeld, run_of, txn_of}
use Rattle.ctr_asking.specs.Asking.{IsInside}
use Rattle.ctr_session_world.proofs.Standing.{RunFinds, some_of}
use Rattle.ctr_looks.specs.Granting.{HasNumber}

pub still_inside : (s : ℕ) (old new : TxnsHeld) → RunFinds → IsInside s old → run_of new ≡ run_of old → IsInside s new
still_inside s old new finds inside same =
    let its = some_of (txn_of s old) inside.some in
    record {
      one = inside.one;
      some = by its.0.session (txn_of s new) (sym (finds s new inside.one) ∙ ap (λ (r : Run). find nat_cmp s r.sessions) same ∙ finds s old inside.one ∙ ap (option_map (λ (t : TxnHeld). t.session)) its.1);
    }
  where
    by : (b : SessionHeld) (o : Option TxnHeld) → option_map (λ (t : TxnHeld). t.session) o ≡ Some b → IsSome o
    by b None is = absurd (false≢true (ap is_some is))
    by b (Some t) is = refl

-- a number that is drawn behind room for it is drawn behind what was before
pub number_roomy : {D : Type 0} (g : Ghosts D) (s : ℕ) (old new : TxnsHeld) (a m b : View D) → m ≡ record a { meta = m.meta } → HasNumber g s old new m b → HasNumber g s old new a b
number_roomy {D} g s old new a m b is number = by m.meta (subst (λ (z : View D). HasNumber g s old new z b) is number)
  where
    by : (k : TablesKept) → HasNumber g s old new (record a { meta = k }) b → HasNumber g s old new a b
    by k (inl draws) = inl (record {
      acts = draws.acts;
      logs = record {
        rec = draws.logs.rec;
        logs = record { j = draws.logs.logs.j; waiting = draws.logs.logs.waiting; hardened = draws.logs.logs.hardened; now = draws.logs.logs.now };
        front = record { front = draws.logs.front.front; long = draws.logs.front.long };
        rests = draws.logs.rests;
        later = draws.logs.later;
      };
      run = draws.run;
    })
    by k (inr has) = inr (record {
      rests = record {
        logs = record { j = has.rests.logs.j; waiting = has.rests.logs.waiting; hardened = has.rests.logs.hardened; now = has.rests.logs.now };
        front = record { front = has.rests.front.front; long = has.rests.front.long };
        rests = has.rests.rests;
        later = has.rests.later;
      };
      some = has.some;
      run = has.run;
    })
