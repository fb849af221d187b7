use Rattle.std.proofs.Common.{Ok, Err, sym, subst}
use Rattle.std.specs.Prelude.{⊤}
use Rattle.std.proofs.lemmas.Result.{err_from_is_err_and}
use Rattle.ctr_base.specs.declared.base.Base.{Base}
use Rattle.ctr_base.specs.Base.{LeavesBase, KeepsBase}
use Rattle.ctr_base.specs.BaseLaws.{leaves_joined, read_leaves, read_rests}
use Rattle.ctr_base.specs.KeptLaws.{base_kept_on, read_kept}
use Rattle.ctr_store.specs.declared.parts.Parts.{Parts}
use Rattle.ctr_store.specs.Parts.{BringsOver}
use Rattle.ctr_store.specs.PageChecks.{FindsPage}
use Rattle.ctr_store.proofs.PartsLaws.{low_moved}
use Rattle.ctr_store.proofs.BringLaws.{high_refused, finds_refused, finds_fine, finds_high}
use Rattle.ctr_store.proofs.parts.Parts.bring.Given.{Over}
use Rattle.ctr_store.proofs.parts.Parts.bring.Goals.{After-bring}
use Rattle.ctr_store.proofs.parts.Parts.bring.Goals as goal

-- what the pool's bringing left
abbrev brought : (g : Over) → After-bring g → Parts g.row.D.Denot g.row.O.Denot
brought g c = record c.args.self.now { base = c.bring.new.backing; pool = c.bring.new.self }

pub returns-in_err-bring-clause-finds : goal.returns-in_err-bring-clause-finds
returns-in_err-bring-clause-finds g c told =
    let p = err_from_is_err_and c.from_residual.result c.from_residual.ensures.1 in
    let m = brought g (goal.at.returns-in_err-bring-clause-finds g c).After-bring in
    let e = c.in_err-bring.ensures in
    rw (p.1, p.2) (finds_refused g.O.Origin.first g.D.Disk c.args.page c.args.self.now m c.in_err-bring.field-0.0 (λ is. absurd (cc ((e.quiet is).1))) (e.finds told))

pub returns-in_err-check_low-clause-goes : goal.returns-in_err-check_low-clause-goes
returns-in_err-check_low-clause-goes g c told sound =
    let below = c.bring.new.backing in
    let works = c.in_ok-bring.ensures.works in
    let at_rest = (c.requires told).at_rest in
    let quiet = (c.in_ok-bring.ensures.stays told).over.at_rest.quiet sound in
    subst (LeavesBase g.D.Disk c.args.self.now.base) (sym c.check_low.ensures.below)
    (leaves_joined g.D.Disk c.args.self.now.base below (record below { disk = c.check_low.new.self.base.disk }) (works.moves told at_rest sound) (c.bring.ensures.works.goes told at_rest sound)
    (read_leaves g.D.Disk below c.check_low.new.self.base.disk quiet c.check_low.ensures.read))

pub returns-in_err-check_low-clause-keeps : goal.returns-in_err-check_low-clause-keeps
returns-in_err-check_low-clause-keeps g c =
    let base = c.args.self.now.base in
    let backing = c.bring.new.backing in
    let disk = c.check_low.new.self.base.disk in
    let counts = c.check_low.ensures.counts in
    let kept = base_kept_on g.D.Disk base backing (record backing { disk = disk }) c.bring.ensures.works.keeps (read_kept g.D.Disk backing disk counts.later counts.stray) in
    (subst (KeepsBase g.D.Disk base) (sym c.check_low.ensures.below) kept, c.check_low.ensures.same.1)

pub returns-in_err-check_low-clause-refused : goal.returns-in_err-check_low-clause-refused
returns-in_err-check_low-clause-refused g c told low =
    let p = err_from_is_err_and c.from_residual-in_err-check_low.result c.from_residual-in_err-check_low.ensures.1 in
    let o = g.O.Origin.first in
    let m = brought g (goal.at.returns-in_err-check_low-clause-refused g c).After-bring in
    let shows = (c.in_ok-bring.ensures.stays told).shows in
    rw (p.1, p.2) (λ sound. high_refused o g.D.Disk c.args.page m c.in_err-check_low.field-0.0 c.in_err-check_low.ensures.refused (low_moved o g.D.Disk c.args.self.now m c.bring.ensures.works.keeps shows (low sound)))

pub returns-in_err-check_low-clause-finds : goal.returns-in_err-check_low-clause-finds
returns-in_err-check_low-clause-finds g c told =
    let d = g.D.Disk in
    let o = g.O.Origin.first in
    let p = err_from_is_err_and c.from_residual-in_err-check_low.result c.from_residual-in_err-check_low.ensures.1 in
    let s = c.args.self.now in
    let m = brought g (goal.at.returns-in_err-check_low-clause-finds g c).After-bring in
    let e = c.in_ok-bring.ensures in
    let stays = e.stays told in
    let read = c.check_low.ensures.read in
    let t = c.check_low.new.self in
    let rests = read_rests d o m.base t.base.disk read stays.over.at_rest in
    let x = c.in_err-check_low.field-0.0 in
    rw (p.1, p.2)
    (subst (λ (b : Base g.row.D.Denot g.row.O.Denot). FindsPage {T = ⊤} o d c.args.page s (record t { base = b }) (Err x)) (sym c.check_low.ensures.below)
    (finds_high o d c.args.page s m e.brings stays told t t.base.disk x read.same rests (e.finds told) c.in_err-check_low.ensures.refused))

pub returns-clause-stays : goal.returns-clause-stays
returns-clause-stays g c told =
    let d = g.D.Disk in
    let o = g.O.Origin.first in
    let s = c.args.self.now in
    let e = c.in_ok-bring.ensures in
    let stays = e.stays told in
    subst (BringsOver o d s) (sym c.in_ok-check_low.ensures.quiet) (record { moves = e.works.moves told (c.requires told).at_rest; shows = stays.shows; over = stays.over })

pub returns-clause-finds : goal.returns-clause-finds
returns-clause-finds g c told =
    let d = g.D.Disk in
    let o = g.O.Origin.first in
    let s = c.args.self.now in
    let m = brought g (goal.at.returns-clause-finds g c).After-bring in
    let e = c.in_ok-bring.ensures in
    subst (λ (t : Parts g.row.D.Denot g.row.O.Denot). FindsPage {T = ⊤} o d c.args.page s t (Ok tt)) (sym c.in_ok-check_low.ensures.quiet) (finds_fine o d c.args.page s m e.brings (e.stays told) (e.finds told) c.in_ok-check_low.ensures.low)
