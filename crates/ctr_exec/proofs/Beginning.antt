-- Sessions that have begun nothing, in a World that begins.
use Rattle.std.proofs.Common.{◌≡◌, ℕ, suc, ◌+◌, ◌-◌, List, [], ◌∷◌, Option, None, Some, refl, sym, ◌∙◌, ap, subst, arith, get_or}
use Rattle.std.specs.Prelude.{is_some}
use Rattle.std.proofs.lemmas.Bool.{false≢true}
use Rattle.ctr_disk.specs.declared.disk.Disk.{Ghosts}
use Rattle.ctr_actions.specs.Sites.{site_of}
use Rattle.ctr_store.specs.Store.{View}
use Rattle.ctr_control.specs.kept_Turns.{Start, state_now}
use Rattle.ctr_control.specs.kept_Walk.{Mind, mind_at}
use Rattle.ctr_locks.specs.Shows.{ShowsKeyLocks}
use Rattle.ctr_control.specs.stops_World.{KeepsWorld}
use Rattle.ctr_control.specs.txn_Held.{TxnHeld, held_from, run_of}
use Rattle.ctr_control.specs.ctr_session_world.World.{AreInTables, names_in}
use Rattle.ctr_exec.specs.declared.runners.Stage.{Stage}
use Rattle.ctr_exec.specs.declared.sessions.Sessions.{Sessions}
use Rattle.ctr_exec.specs.Acting.{IsMidway}
use Rattle.ctr_exec.specs.Runners.{made_at, runner_at}
use Rattle.ctr_exec.specs.Sessions.{AreFresh, IsSeatedAt, ShowsSessions}
use Rattle.ctr_exec.proofs.Places.{fresh_at}
use Rattle.ctr_exec.proofs.Shown.{idle_for}

none_held : (n : ℕ) (os : List (Option TxnHeld)) → ((i : ℕ) → get_or os i None ≡ None) → held_from n os ≡ []
none_held n [] none = refl
none_held n (None ∷ os) none = none_held (n + 1) os (λ i. none (suc i))
none_held n (Some t ∷ os) none = absurd (false≢true (sym (ap is_some (none 0))))

module _ {D : Type 0} (g : Ghosts D) (c : Start) (opened : D) (v : View D) (h : Sessions) (keeps : KeepsWorld g c opened v (mind_at (site_of v.now))) (fresh : AreFresh h) (lines : h.script.lines ≡ c.lines) (stuck : h.stuck ≡ c.stuck) where
  abbrev w : Mind
  w = mind_at (site_of v.now)

  nobody : (i : ℕ) → get_or h.txns.sessions i None ≡ None
  nobody i = ap (λ j. get_or h.txns.sessions j None) (less i) ∙ fresh.nobody (i + 1)
    where
      less : (i : ℕ) → i ≡ i + 1 - 1
      less i = omega (arith)

  run_is : w.run ≡ run_of h.txns
  run_is = λ i. record { commits = sym fresh.commits i; sessions = sym (none_held 1 h.txns.sessions nobody) i; answered = sym fresh.answered i }

  locks_now : ShowsKeyLocks (names_in v.now) h.locks (state_now c w)
  locks_now = subst (λ l. ShowsKeyLocks (names_in v.now) l (state_now c w)) (sym fresh.locks) (λ s. record { uses = λ name. refl; holds = λ name. refl; locks = λ e k. refl })

  tables_now : AreInTables v.now h.locks (state_now c w) w.facts
  tables_now r e key u is at = absurd (false≢true (ap is_some at))

  each : (s : ℕ) → IsSeatedAt c w s (runner_at s h.runners.items)
  each s =
      let at = fresh_at h.runners.items (s - 1) fresh.unbegun in
      record {
        progress = λ i. record { finished = sym at.none i; made = made_at (sym at.between i) };
        at = λ statement there. subst (λ (q : Stage). IsMidway c s statement w q) (sym at.between) (idle_for statement tt);
      }

  pub begins : ShowsSessions g c opened v h w
  begins = record {
    world = record { keeps = keeps; run_is = run_is; locks = locks_now; tables = tables_now; in_order = tt };
    lines = lines;
    tape = fresh.tape;
    stuck = stuck;
    each = λ s one. each s;
  }
