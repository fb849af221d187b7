use Rattle.std.proofs.Common.{Some, refl, ◌∙◌, ap}
use Rattle.ctr_looks.specs.txn_Held.{run_of}
use Rattle.ctr_looks.specs.txn_Numbered.{NumbersHeld}
use Rattle.ctr_looks.specs.txn_Steps.{txn_room}
use Rattle.ctr_looks.specs.ctr_write.Stages.{stage_items}
use Rattle.ctr_looks.proofs.ctr_session_world.Ready.{others_set, own_set, unasked_as}
use Rattle.ctr_writing.proofs.Roomy.{room_on}
use Rattle.ctr_writing.proofs.room.keep_room.Goals as goal

pub returns-clause-run : goal.returns-clause-run
returns-clause-run c = λ was has.
    c.the_run_is_of_the_sessions.ensures.same c.args.s has.t (txn_room c.wants_item.result has.t) c.args.txns.now c.keep_item.new.self has.there refl (c.keep_item.ensures.sets has.t has.there)
    ∙ ap (λ (n : NumbersHeld). record (run_of c.args.txns.now) { commits = n.commits }) c.keep_item.ensures.numbers

pub returns-clause-kept : goal.returns-clause-kept
returns-clause-kept c = λ was has. record {
  t = txn_room c.wants_item.result has.t;
  there = own_set c.args.s (Some (txn_room c.wants_item.result has.t)) c.args.txns.now c.keep_item.new.self c.requires.one c.counts_sessions.ensures (c.keep_item.ensures.sets has.t has.there);
  room = c.wants_item.ensures;
}

pub returns-clause-stays : goal.returns-clause-stays
returns-clause-stays c = λ was has.
    let s = c.args.s in
    let old = c.args.txns.now in
    let new = c.keep_item.new.self in
    let t = txn_room c.wants_item.result has.t in
    let sets = c.keep_item.ensures.sets has.t has.there in
    (others_set s (Some t) old new c.requires.one sets, unasked_as s has.t t old new c.requires.one c.counts_sessions.ensures has.there refl sets)

pub returns-clause-items : goal.returns-clause-items
returns-clause-items c = λ was k l has left room.
    let sets = c.keep_item.ensures.sets has.t has.there in
    room_on c.args.s c.args.txns.now c.keep_item.new.self has.t c.wants_item.result (stage_items was) has.there has.room k l room
    (c.keep_item.ensures.spends has.t has.there) c.keep_item.ensures.stays (c.keep_item.ensures.gets_back has.t has.there)
    (c.the_room_of_all_stays.ensures.changed c.args.s (txn_room c.wants_item.result has.t) c.args.txns.now c.keep_item.new.self c.requires.one c.counts_sessions.ensures sets) c.args.stage c.wants_item.ensures left
