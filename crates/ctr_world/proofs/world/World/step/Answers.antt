use Rattle.std.proofs.Common.{subst}
use Rattle.ctr_area.specs.Sound.{IsBare}
use Rattle.ctr_record_effects.specs.States.{area_in}
use Rattle.ctr_world.specs.Held.{Held, held}
use Rattle.ctr_world.specs.Turns.{RollsBack}
use Rattle.ctr_world.specs.World.{HasNobodyLeft}
use Rattle.ctr_world.proofs.Bare.{bare, idle_of}
use Rattle.ctr_world.proofs.world.World.step.Goals as goal

pub returns-clause-bare : goal.returns-clause-bare
returns-clause-bare g c = λ s tells stands by idle quiet.
    let p = held c.self.inside.parts in
    let is = idle_of g.D.Disk c.step.result c.args.actor p (held c.step.new.self) c.step.ensures.says by idle in
    subst (λ (h : Held _). HasNobodyLeft g.B.Opening s h.running → IsBare h.running.store.now.tables (area_in h.running.store.now)) c.self.view_is
    (λ q. bare g.B.Opening g.B.Origin.first g.D.Disk p c.self.invariant is.0 s tells stands c.nobody_inside_locks_nothing.ensures.opens c.an_idle_pass_leaves_it_bare.ensures q is.1) quiet

pub returns-clause-rolls : goal.returns-clause-rolls
returns-clause-rolls g c = λ t s tells stands by went.
    let new = held c.step.new.self in
    subst (λ (h : Held _). RollsBack s h.running new.running) c.self.view_is (c.step.ensures.rolls t s tells stands by went)
