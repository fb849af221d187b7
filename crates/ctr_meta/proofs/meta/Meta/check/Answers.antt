use Rattle.std.proofs.Common.{sym, ap, subst, ◌∙◌}
use Rattle.ctr_rec.specs.declared.record.Record.{Record}
use Rattle.ctr_rec.specs.declared.record.Record.TheVariants.{Checkpoint}
use Rattle.ctr_rec.specs.Records.{IsRecord}
use Rattle.ctr_meta.specs.Needs.{needs}
use Rattle.ctr_meta.proofs.NeedLaws.{list_needs_met}
use Rattle.ctr_meta.proofs.meta.Meta.check.Goals as goal

pub returns-in-Checkpoint : goal.returns-in-Checkpoint
returns-in-Checkpoint c =
    let is : IsRecord (Checkpoint c.in-Checkpoint.next c.in-Checkpoint.lists) = subst IsRecord c.in-Checkpoint.is c.requires.record_is in
    sym (ap (λ (r : Record). needs r c.args.self.now.tables) c.in-Checkpoint.is ∙ list_needs_met c.in-Checkpoint.next c.in-Checkpoint.lists is.0 is.1)
