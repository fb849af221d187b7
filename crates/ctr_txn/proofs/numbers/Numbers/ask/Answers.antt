use Rattle.std.proofs.Common.{◌≡◌, ◌+◌, ◌≤◌, ◌<◌, ◌-◌, false, Some, refl, sym, ◌∙◌, ap, subst, arith, length}
use Rattle.std.specs.Prelude.{slice_set}
use Rattle.std.specs.Vec.{with_item}
use Rattle.ctr_snap.specs.Seeing.{has}
use Rattle.ctr_txn.specs.Numbered.{NumbersHeld}
use Rattle.ctr_txn.proofs.Numbering.{asked_numbered}
use Rattle.ctr_txn.proofs.numbers.Numbers.ask.Goals as goal

pub invariant_of-self : goal.invariant_of-self
invariant_of-self c =
    let a = c.self.inside in
    let x = c.args.x in
    let from : a.first ≤ x = subst (λ (n : NumbersHeld). n.first ≤ x) (sym c.self.view_is) c.requires.drawn.0 in
    let below : x < a.first + length a.numbers.items = subst (λ (n : NumbersHeld). x < n.next) (sym c.self.view_is) c.requires.drawn.1 in
    let none : has x a.commits.items ≡ false = subst (λ (n : NumbersHeld). has x n.commits ≡ false) (sym c.self.view_is) c.requires.unasked in
    let count : c.len.result ≡ length a.commits.items = c.len.ensures ∙ a.commits.ok.0 in
    asked_numbered a (record { first = a.first; numbers = with_item a.numbers (x - a.first) (Some (c.len.result + 1)); commits = c.push_reserved.new.self }) c.self.invariant refl x from (omega (arith, from, below)) none
    (ap (λ n. slice_set a.numbers.items (x - a.first) (Some (n + 1))) count) c.push_reserved.ensures.items
