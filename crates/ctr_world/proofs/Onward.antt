-- Steps in the cleaner's pass, one behind the other.
use Rattle.std.proofs.Common.{◌≡◌, ⊎_elim, inl, inr, ℕ, zero, suc, ◌+◌, ◌≤◌, ◌<◌, refl, sym, ◌∙◌, ap, subst, arith}
use Rattle.ctr_pass.specs.cleaner_CleanTurn.{CleanTurn}
use Rattle.ctr_pass.specs.cleaner_CleanTurn.TheVariants.{Cleaned, Unlinked, Reclaimed, Moved, Over, Left}
use Rattle.ctr_pass.specs.cleaner_Turning.{next_cleaned}
use Rattle.ctr_pass.specs.declared.pass.Pass.{Pass}
use Rattle.ctr_pass.specs.exec_sessions_Sessions.{Sessions}
use Rattle.ctr_pass.specs.Passing.{noted, pass_behind}
use Rattle.ctr_store.specs.Store.{View}
use Rattle.ctr_world.specs.Cleaning.{CleansAlong, CleansHere, CleansOnward, CleansOrReads, ReadsOn, noted_pass}
use Rattle.ctr_world.specs.Held.{Running}
use Rattle.ctr_world.specs.declared.cleaning.TheConstants.{READS}

-- one record is logged at most
pub next_low : (did : CleanTurn) (n : ℕ) → next_cleaned did n ≤ n + 1
next_low Cleaned n = omega arith
next_low Unlinked n = omega arith
next_low Reclaimed n = omega arith
next_low (Moved y) n = omega arith
next_low Over n = omega arith
next_low (Left y) n = omega arith

module _ {D : Type 0} (old new later : Running D) (pass : later.pass ≡ new.pass) (next : later.store.next ≡ new.store.next) where
  here_same : (from : Running D) → CleansHere from new → CleansHere from later
  here_same from here = record {
    went = here.went;
    pass = pass ∙ here.pass ∙ ap (λ k. pass_behind (noted_pass from) here.went.from here.went.did from.sessions.txns.cleaner k) (sym next);
    numbers = next ∙ here.numbers;
  }

  -- what leaves the pass and the log's next number leaves what the steps did
  pub along_same : (n : ℕ) → CleansAlong n old new → CleansAlong n old later
  along_same zero here = here_same old here
  along_same (suc n) (mid, along, none, here) = (mid, along, none, here_same mid here)

-- where pages were read, the pass is noted as it was
pub noted_read : {D : Type 0} (old mid : Running D) → mid.pass ≡ old.pass → mid.store.next ≡ old.store.next → mid.sessions ≡ old.sessions → noted_pass mid ≡ noted_pass old
noted_read old mid pass next sessions =
    ap (λ (p : Pass). noted p mid.store.next mid.sessions.tape.items) pass ∙ ap (λ n. noted old.pass n mid.sessions.tape.items) next
    ∙ ap (λ (h : Sessions). noted old.pass old.store.next h.tape.items) sessions

module _ {D : Type 0} (old mid new : Running D) (pass : mid.pass ≡ old.pass) (next : mid.store.next ≡ old.store.next) (sessions : mid.sessions ≡ old.sessions) where
  here_behind : (to : Running D) → CleansHere mid to → CleansHere old to
  here_behind to here = record {
    went = here.went;
    pass = here.pass ∙ ap (λ (p : Pass). pass_behind p here.went.from here.went.did mid.sessions.txns.cleaner to.store.next) (noted_read old mid pass next sessions)
        ∙ ap (λ (h : Sessions). pass_behind (noted_pass old) here.went.from here.went.did h.txns.cleaner to.store.next) sessions;
    numbers = here.numbers ∙ ap (next_cleaned here.went.did) next;
  }

  along_behind : (n : ℕ) (to : Running D) → CleansAlong n mid to → CleansAlong n old to
  along_behind zero to here = here_behind to here
  along_behind (suc n) to (last, along, none, here) = (last, along_behind n last along, none ∙ next, here)

  -- steps behind pages that were read
  pub onward_behind : CleansOnward mid new → CleansOnward old new
  onward_behind (n, few, along) = (n, few, along_behind n new along)

-- answers leave what a turn in the pass did
pub answered_same : {D : Type 0} (old new later : Running D) → later.pass ≡ new.pass → later.store ≡ new.store → later.read ≡ new.read → CleansOrReads old new → CleansOrReads old later
answered_same old new later pass store read = ⊎_elim
    (λ steps. let on = steps.0 in inl ((on.0, on.1, along_same old new later pass (ap (λ (v : View _). v.next) store) on.0 on.2), subst (λ n. n ≤ 1) (sym read) steps.1))
    (λ (reads : ReadsOn old new). inr (record {
      pass = pass ∙ reads.pass;
      none = ap (λ (v : View _). v.next) store ∙ reads.none;
      few = reads.few;
      more = subst (λ n. old.read < n) (sym read) reads.more;
      most = subst (λ n. n ≤ old.read + READS) (sym read) reads.most;
    }))
