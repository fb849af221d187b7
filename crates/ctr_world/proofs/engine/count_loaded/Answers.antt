use Rattle.ctr_undo.specs.kept_Walk.{scene_of}
use Rattle.ctr_undo.specs.kept_Turns.{start_point}
use Rattle.ctr_world.proofs.Counting.{world_counted}
use Rattle.ctr_world.proofs.engine.count_loaded.Goals as goal

pub returns-clause-kept : goal.returns-clause-kept
returns-clause-kept g c = λ run opened h w tells sound world.
    world_counted g.O.Origin.first g.D.Disk c.args.store.now c.totals-counted.new.store c.totals-counted.result c.pages_that_are_read_keep_a_world.ensures run opened h w tells sound c.totals-counted.ensures.leaves
    (c.rests.ensures tells sound) (c.totals-counted.ensures.refused tells sound world.keeps.pages.sound) world

pub returns-clause-counts : goal.returns-clause-counts
returns-clause-counts g c = λ run opened w tells sound keeps.
    c.totals-counted.ensures.shown keeps.walks.scene.low (scene_of run.lines (start_point run) w) tells sound keeps.pages.sound keeps.walks.scene.shown
