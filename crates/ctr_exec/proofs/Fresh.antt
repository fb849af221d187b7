-- Sessions before the first act of a script.
use Rattle.std.proofs.Common.{◌≡◌, ℕ, suc, ◌+◌, ◌-◌, ◌*◌, ◌≤◌, ◌<◌, ◌^◌, false, cond, Bool, List, [], ◌∷◌, length, Option, None, refl, sym, ◌∙◌, ap, subst, arith, get_or}
use Rattle.std.specs.Prelude.{vec_len, vec_capacity}
use Rattle.std.specs.List.{AllByRecursion, sum_by}
use Rattle.std.proofs.lemmas.Bool.{false≢true}
use Rattle.std.proofs.lemmas.List.Sums.{sum_by-cons}
use Rattle.ctr_types.specs.declared.statement.Line.{Line}
use Rattle.ctr_meta.specs.Kept.{TablesKept}
use Rattle.ctr_control.specs.txn_Held.{TxnHeld, TxnsHeld}
use Rattle.ctr_control.specs.txn_Rooms.{item_kept, HasItemRoom}
use Rattle.ctr_control.specs.ctr_session_world.Ready.{is_asking}
use Rattle.ctr_control.specs.ctr_writing.Tables.{HasFittingColumns}
use Rattle.ctr_exec.specs.declared.runners.Stage.{Stage}
use Rattle.ctr_exec.specs.declared.runners.Stage.TheVariants as stage
use Rattle.ctr_exec.specs.declared.sessions.Sessions.{Sessions}
use Rattle.ctr_exec.specs.Acting.{MayAct}
use Rattle.ctr_exec.specs.Runners.{runner_at, AreRunners, IsUnbegun}
use Rattle.ctr_exec.specs.Sessions.{AreSeated}
use Rattle.ctr_exec.proofs.Places.{fresh_at, fresh_left, places_within}
use Rattle.ctr_exec.proofs.Seats.{between_waits}

-- nobody has room for an item
sum_none : (os : List (Option TxnHeld)) → ((i : ℕ) → get_or os i None ≡ None) → sum_by item_kept os ≡ 0
sum_none [] none = refl
sum_none (o ∷ os) none =
    let here = sum_by-cons item_kept o os in
    let first = ap item_kept (none 0) in
    let rest = sum_none os (λ i. none (suc i)) in
    omega (arith, here, first, rest)

abbrev count : Bool → ℕ
count b = cond b 1 0

module _ (txns : TxnsHeld) (nobody : (i : ℕ) → get_or txns.sessions i None ≡ None) (cleaner : txns.cleaner ≡ false) where
  pub no_items : (k : TablesKept) → HasItemRoom txns k
  no_items k =
      let none = sum_none txns.sessions nobody in
      let clean : cond txns.cleaner 1 0 ≡ 0 = ap count cleaner in
      omega (arith, none, clean)

module _ (h : Sessions) (nobody : (i : ℕ) → get_or h.txns.sessions i None ≡ None) (fresh : AllByRecursion IsUnbegun h.runners.items) (eight : length h.runners.items ≡ 8) (are : AreRunners h.script.lines 1 h.runners.items)
    (few : length h.script.lines < 2 ^ 32 - 1) (fit : AllByRecursion (λ (l : Line). HasFittingColumns l.statement) h.script.lines) (len : vec_len h.tape ≡ 0) (room : 2 * length h.script.lines + length h.stuck ≤ vec_capacity h.tape) where
  between : (s : ℕ) → (runner_at s h.runners.items).stage ≡ stage.Between
  between s = (fresh_at h.runners.items (s - 1) fresh).between

  pub seated_new : (counted : ℕ) → AreSeated h counted
  seated_new counted = record {
    eight = eight;
    few = few;
    runners = are;
    fit = fit;
    room = let all = fresh_left h.runners.items fresh in let within = places_within h.script.lines 1 h.runners.items are in omega (arith, all, within, len, room);
    asked = λ s one is. absurd (false≢true (sym (ap is_asking (nobody (s - 1))) ∙ is));
    commits = λ s one is. absurd (cc (between s, is));
    waits = λ s one is. absurd (between_waits (sym (between s) ∙ is));
    may = λ s statement one there unasked. subst (λ (g : Stage). MayAct g s statement h.txns counted) (sym (between s)) tt;
  }
