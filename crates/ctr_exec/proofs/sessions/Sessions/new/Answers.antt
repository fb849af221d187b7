use Rattle.std.proofs.Common.{◌-◌, ap, subst, arith, length}
use Rattle.ctr_exec.specs.Runners.{AreRunners}
use Rattle.ctr_exec.proofs.Fresh.{no_items, seated_new}
use Rattle.ctr_exec.proofs.Ordered.{ordered_new}
use Rattle.ctr_exec.proofs.sessions.Sessions.new.Goals as goal

pub returns-clause-seats : goal.returns-clause-seats
returns-clause-seats c =
    let room = c.in_ok-tape.ensures.capacity in
    let len = c.len.ensures in
    let names = ap length c.as_slice-2.ensures in
    seated_new _ c.in_ok-txns.ensures.nobody c.in_ok-runners.ensures.fresh c.in_ok-runners.ensures.eight (subst (λ ls. AreRunners ls 1 c.in_ok-runners.runners.items) c.as_slice.ensures c.in_ok-runners.ensures.are) c.requires.few c.requires.fit c.in_ok-tape.ensures.len (omega (arith, room, len, names))

pub returns-clause-fresh : goal.returns-clause-fresh
returns-clause-fresh c = record {
  nobody = λ s. c.in_ok-txns.ensures.nobody (s - 1);
  answered = c.in_ok-txns.ensures.numbers.2;
  commits = c.in_ok-txns.ensures.numbers.1;
  locks = c.new-2.ensures;
  tape = c.in_ok-tape.ensures.items;
  unbegun = c.in_ok-runners.ensures.fresh;
  room = no_items c.in_ok-txns.txns c.in_ok-txns.ensures.nobody c.in_ok-txns.ensures.numbers.3;
}

pub returns-clause-ordered : goal.returns-clause-ordered
returns-clause-ordered c = ordered_new _ c.in_ok-tape.ensures.items c.in_ok-runners.ensures.fresh
