use Rattle.std.proofs.Common.{ℕ, Some, sym, subst}
use Rattle.ctr_disk.specs.declared.fault.Stop.TheVariants.{Worn}
use Rattle.ctr_world.specs.Held.{held}
use Rattle.ctr_world.specs.World.{Kept}
use Rattle.ctr_world.proofs.Keeping.{kept_worn}
use Rattle.ctr_world.proofs.parts.Parts.wear.Goals as goal

pub returns-clause-kept : goal.returns-clause-kept
returns-clause-kept g c =
    let p = held c.args.self.now in
    subst (λ (n : ℕ). Kept g.B.Opening g.B.Origin.first g.D.Disk (record { running = p.running; stop = Some (Worn n) })) (sym c.next.ensures)
    (kept_worn g.B.Opening g.B.Origin.first g.D.Disk p c.requires.going c.requires.worn c.requires.kept)
