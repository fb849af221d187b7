use Rattle.ctr_writing.specs.ctr_session_world.page_turns_Turns.{RestsBehind}
use Rattle.ctr_writing.proofs.ctr_session_world.rollback_Records.{three_ok}
use Rattle.ctr_writing.proofs.ctr_session_world.Resting.{world_rests}
use Rattle.ctr_control.proofs.answering.make_room.Goals as goal

pub returns-clause-kept : goal.returns-clause-kept
returns-clause-kept g c = λ run opened h w tells sound world.
    let a = c.args.store.now in
    let b = c.make_room-made.new.self in
    let leaves = c.make_room-made.ensures.leaves in
    three_ok c.make_room-made.result
    (λ logs going again.
    let rested : RestsBehind g.D.Disk a b = record { logs = logs; front = leaves.any_moment tells sound; rests = c.rests.ensures tells sound going; later = leaves.time.later } in
    world_rests g.D.Disk run opened a b h w world logs.now (c.pages_that_are_read_keep_a_world.ensures run opened a b w world.keeps rested))
    (leaves.logs tells sound) leaves.going leaves.going

pub returns-clause-refused : goal.returns-clause-refused
returns-clause-refused g c = c.make_room-made.ensures.leaves.refused

pub returns-clause-keeps : goal.returns-clause-keeps
returns-clause-keeps g c = c.make_room-made.ensures.leaves.keeps
