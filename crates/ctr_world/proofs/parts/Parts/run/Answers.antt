use Rattle.std.proofs.Common.{◌≢◌, [], ◌∷◌, None, refl, sym, ◌∙◌, subst}
use Rattle.ctr_world.specs.declared.parts.Parts.{Parts}
use Rattle.ctr_world.specs.Held.{held}
use Rattle.ctr_world.proofs.parts.Parts.run.Goals as goal

pub loop-init : goal.loop-init
loop-init g c = (c.requires.kept, λ stopped. refl, ([], refl))

pub loop-preserved : goal.loop-preserved
loop-preserved g c =
    let by = c.loop.invariant.2 in (
      c.step_next.ensures.kept,
      λ stopped. (c.step_next.ensures.stopped (subst (λ (p : Parts _ _). p.stop ≢ None) (sym (c.loop.invariant.1 stopped)) stopped)).1 ∙ c.loop.invariant.1 stopped,
      (held c.loop.self ∷ by.0, (by.1, c.step_next.ensures.turn c.in-Went.is)),
    )

pub returns-clause-turns : goal.returns-clause-turns
returns-clause-turns g c =
    let by = c.loop.invariant.2 in
    record { between = by.0; last = held c.loop.self; turns = by.1; tape_is = c.step_next.ensures.still c.in_default.not-Went }
