use Rattle.std.proofs.Common.{refl}
use Rattle.ctr_tests_txn.specs.StandsReady.{StandsReady}
use Rattle.ctr_tests_txn.proofs.steps.drop_kept.Goals as goal

pub drop_table-requires-clause-room : goal.drop_table-requires-clause-room
drop_table-requires-clause-room c =
    let r = c.requires.room in
    let i = c.requires.item in
    record {
      going = r.going;
      opens_fit = r.opens_fit;
      items_fit = c.room_that_is_kept_is_there.ensures.session c.args.s i.0 c.args.txns.now c.args.store.now.meta i.1 i.2 c.requires.stands.room;
      room = r.room;
      number = r.number;
    }

pub returns : goal.returns
returns c =
    let i = c.requires.item in
    let one = c.in_ok-drop_table.ensures.one in
    let stands : StandsReady c.keep_item.new.self c.drop_table.new.store = record {
      going = one.going;
      room = c.keep_item.ensures.spends i.0 i.1 i.2 refl c.args.store.now.meta c.drop_table.new.store.meta one.takes.left c.requires.stands.room;
    } in
    record { stands = stands }
