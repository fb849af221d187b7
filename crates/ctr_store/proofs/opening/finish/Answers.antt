use Rattle.std.proofs.Common.{◌∙◌, ◌+◌, length, ap, subst, arith}
use Rattle.ctr_store.specs.Opening.{disk_left, worn_by}
use Rattle.ctr_store.specs.RecordChecks.{AllPass}
use Rattle.ctr_store.proofs.OpenLaws.{answered, later_refused, later_undamaged, worn_undamaged, worn_faults}
use Rattle.ctr_store.proofs.opening.finish.Goals as goal

pub returns-in-Ok-clause-answer : goal.returns-in-Ok-clause-answer
returns-in-Ok-clause-answer g c told =
    let says = (c.requires.told told).0.stands in
    answered g.O.Origin.first g.D.Disk c.in-Ok.parts c.args.root says (c.in-Ok.ensures.opened told) c.refuse_worn.result c.refuse_worn.ensures.same c.refuse_worn.ensures.worn

pub returns-in-Err-clause-answer : goal.returns-in-Err-clause-answer
returns-in-Err-clause-answer g c told =
    let front = (c.requires.told told).0 in
    later_refused g.O.Origin.first c.args.root c.in-Err.error.0 front.stands (front.log.sound, subst (AllPass c.args.root.pages) front.log.visits_are front.log.passed) (c.in-Err.ensures.later told)

pub returns-in-Err-clause-undamaged : goal.returns-in-Err-clause-undamaged
returns-in-Err-clause-undamaged g c told sound = later_undamaged c.in-Err.error.0 (c.in-Err.ensures.refused told sound)

pub returns-in-Ok-clause-undamaged : goal.returns-in-Ok-clause-undamaged
returns-in-Ok-clause-undamaged g c told sound =
    let s = c.in-Ok.parts in
    worn_undamaged (worn_by (s.base.log.first + length s.base.log.buffered) s.meta.tables.next) c.refuse_worn.result c.refuse_worn.ensures.worn

pub returns-in-Ok-clause-counts : goal.returns-in-Ok-clause-counts
returns-in-Ok-clause-counts g c =
    let d = g.D.Disk in
    let s = c.in-Ok.parts in
    let left = ap (λ x. d.faults_of x) c.refuse_worn.ensures.disk ∙ c.in-Ok.ensures.counts.faults.fine (λ is. cc is) in
    record {
      later = omega (arith, ap (λ x. d.moment_of x) c.refuse_worn.ensures.disk, c.in-Ok.ensures.counts.later);
      faults = worn_faults (worn_by (s.base.log.first + length s.base.log.buffered) s.meta.tables.next) c.refuse_worn.result (d.faults_of c.args.disk) (d.faults_of (disk_left c.refuse_worn.result)) c.refuse_worn.ensures.worn left;
      stray = ap (λ x. d.strays_of x) c.refuse_worn.ensures.disk ∙ c.in-Ok.ensures.counts.stray;
    }
