use Rattle.std.proofs.Common.{◌∙◌, ap, subst}
use Rattle.ctr_meta.specs.Kept.{TablesKept}
use Rattle.ctr_meta.specs.Tables.{Tables}
use Rattle.ctr_walk.specs.redo_States.{State}
use Rattle.ctr_area.specs.Images.{is_committed_in}
use Rattle.ctr_record_effects.specs.States.{area_in}
use Rattle.ctr_walk.proofs.Damages.{reads_err}
use Rattle.ctr_totals.specs.Finding.{TellsLoad}
use Rattle.ctr_totals.proofs.finding.load_at.Goals as goal

pub returns-in-Err-clause-leaves : goal.returns-in-Err-clause-leaves
returns-in-Err-clause-leaves g c = reads_err g.O.Origin.first g.D.Disk _ _ c.in-Err.fault c.args.store.now c.title_at.new.store c.in-Err.ensures.leaves

pub returns-in-Ok-clause-tells : goal.returns-in-Ok-clause-tells
returns-in-Ok-clause-tells g c = λ told sound.
    let s = c.args.store.now.now in
    let same = (c.in-Ok.ensures.leaves.logs told sound).now in
    let tables = ap (λ (m : TablesKept). m.tables) c.meta.ensures.tables ∙ c.meta.ensures.now told sound c.in-Ok.ensures.leaves.going ∙ ap (λ (t : State). t.tables) same in
    subst (λ (t : Tables). TellsLoad (is_committed_in t) ((area_in s).title c.args.entry) c.is_load.result) tables (c.is_load.ensures ((area_in s).title c.args.entry) (c.in-Ok.ensures.tells told sound))
