use Rattle.std.proofs.Common.{◌∙◌, ap}
use Rattle.ctr_undo.specs.page_turns_Turns.{RestsBehind}
use Rattle.ctr_store.specs.Checkpoints.{checkpoint_need}
use Rattle.ctr_pass.specs.session_world_World.{InWorld}
use Rattle.ctr_pass.proofs.session_world_Resting.{world_rests}
use Rattle.ctr_world.proofs.Quiet.{world_flushed}
use Rattle.ctr_world.proofs.engine.write_next.Goals as goal

pub returns-clause-kept : goal.returns-clause-kept
returns-clause-kept g c = λ run opened h w tells sound world.
    let a = c.args.store.now in
    let b = c.turn.new.store in
    let leaves = c.turn.ensures.keeps in
    let listed = ap checkpoint_need (c.meta-tables.ensures.now tells sound c.requires.going) ∙ c.a_sound_state_can_be_listed.ensures a.now world.keeps.pages.sound.sound in
    world_flushed g.D.Disk a b c.turn.result (InWorld g.D.Disk run opened b h w)
    (leaves.shows tells sound)
    (c.turn.ensures.refused tells sound listed)
    (λ logs rests.
    let rested : RestsBehind g.D.Disk a b = record { logs = logs; front = leaves.any_moment tells sound; rests = rests; later = leaves.later } in
    world_rests g.D.Disk run opened a b h w world logs.now (c.pages_that_are_read_keep_a_world.ensures run opened a b w world.keeps rested))
