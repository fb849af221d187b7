use Rattle.std.proofs.Common.{Some, false, refl, ◌∙◌, ap}
use Rattle.ctr_looks.specs.txn_Held.{run_of}
use Rattle.ctr_looks.specs.txn_Numbered.{NumbersHeld}
use Rattle.ctr_looks.specs.txn_Steps.{txn_room}
use Rattle.ctr_looks.proofs.ctr_session_world.Ready.{others_set, unasked_as}
use Rattle.ctr_writing.proofs.room.spend_room.Goals as goal

pub returns-clause-run : goal.returns-clause-run
returns-clause-run c = λ has.
    c.the_run_is_of_the_sessions.ensures.same c.args.s has.t (txn_room false has.t) c.args.txns.now c.keep_item.new.self has.there refl (c.keep_item.ensures.sets has.t has.there)
    ∙ ap (λ (n : NumbersHeld). record (run_of c.args.txns.now) { commits = n.commits }) c.keep_item.ensures.numbers

pub returns-clause-stays : goal.returns-clause-stays
returns-clause-stays c = λ has.
    let s = c.args.s in
    let old = c.args.txns.now in
    let new = c.keep_item.new.self in
    let t = txn_room false has.t in
    let sets = c.keep_item.ensures.sets has.t has.there in
    (others_set s (Some t) old new c.requires.one sets, unasked_as s has.t t old new c.requires.one c.counts_sessions.ensures has.there refl sets)

pub returns-clause-items : goal.returns-clause-items
returns-clause-items c = λ k l has adds room. c.keep_item.ensures.spends has.t has.there has.kept refl k l adds.0 room
