use Rattle.std.proofs.Common.{◌≡◌, ◌≤◌, false, None, refl, sym, ◌∙◌, ap, subst, arith, length}
use Rattle.std.proofs.lemmas.List.{length_push}
use Rattle.ctr_snap.specs.Seeing.{has}
use Rattle.ctr_txn.specs.Numbered.{NumbersHeld}
use Rattle.ctr_txn.specs.NumbersInside.{numbers_here}
use Rattle.ctr_txn.proofs.Numbering.{drawn_numbered, fresh}
use Rattle.ctr_txn.proofs.numbers.Numbers.draw.Goals as goal

pub invariant_of-self : goal.invariant_of-self
invariant_of-self c = drawn_numbered c.self.inside (record { first = c.self.inside.first; numbers = c.push_reserved.new.self; commits = c.self.inside.commits }) c.self.invariant refl c.push_reserved.ensures.items refl
    (omega (arith, c.requires.small, ap (λ (n : NumbersHeld). n.next) c.self.view_is, ap (λ l. length l) c.push_reserved.ensures.items, length_push c.self.inside.numbers.items None))

pub returns-clause-fresh : goal.returns-clause-fresh
returns-clause-fresh c =
    let both : ((numbers_here c.self.inside).first ≤ (numbers_here c.self.inside).next) × (has (numbers_here c.self.inside).next (numbers_here c.self.inside).commits ≡ false) = (omega arith, fresh c.self.inside c.self.invariant) in
    let seen = subst (λ (n : NumbersHeld). (n.first ≤ n.next) × (has n.next n.commits ≡ false)) c.self.view_is both in (
      subst (λ x. c.args.self.now.first ≤ x) (sym c.next-x.ensures) seen.0,
      ap (λ x. has x c.args.self.now.commits) c.next-x.ensures ∙ seen.1,
    )
