use Rattle.ctr_writing.specs.ctr_session_world.page_turns_Turns.{RestsBehind}
use Rattle.ctr_writing.proofs.ctr_session_world.rollback_Records.{three_ok}
use Rattle.ctr_writing.proofs.ctr_session_world.Resting.{world_rests}
use Rattle.ctr_control.proofs.answering.flush.Goals as goal

pub returns-clause-kept : goal.returns-clause-kept
returns-clause-kept g c = λ run opened h w tells sound world.
    let a = c.args.store.now in
    let b = c.harden.new.self in
    let leaves = c.harden.ensures.leaves in
    three_ok c.harden.result
    (λ logs rests going.
    let rested : RestsBehind g.D.Disk a b = record { logs = logs; front = leaves.any_moment tells sound; rests = rests; later = leaves.time.later } in
    world_rests g.D.Disk run opened a b h w world logs.now (c.pages_that_are_read_keep_a_world.ensures run opened a b w world.keeps rested))
    (leaves.logs tells sound) (c.harden.ensures.durable tells sound) leaves.going

pub returns-clause-keeps : goal.returns-clause-keeps
returns-clause-keeps g c = c.harden.ensures.leaves.keeps
