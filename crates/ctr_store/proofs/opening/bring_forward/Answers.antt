use Rattle.std.proofs.Common.{◌≡◌, ◌∙◌, ◌+◌, List, ℕ, length, refl, sym, ap, subst, arith}
use Rattle.ctr_base.specs.log_Visits.{kept_visits, visit_bytes, AreNumbered}
use Rattle.ctr_base.proofs.log_VisitLaws.{kept_bytes, kept_numbers}
use Rattle.ctr_base.specs.declared.base.Base.{Base}
use Rattle.ctr_base.specs.BaseLaws.{quiet_leaves}
use Rattle.ctr_store.specs.RecordChecks.{AllPass, tables_seen}
use Rattle.ctr_store.proofs.OpenLaws.{rests_opened, starts_opened, pages_opened, leaves_first, state_first, tables_found}
use Rattle.ctr_store.proofs.BufferLaws.{none_waits}
use Rattle.ctr_store.proofs.opening.bring_forward.Goals as goal

pub returns-in_default-clause-goes : goal.returns-in_default-clause-goes
returns-in_default-clause-goes g c told sound =
    let d = g.D.Disk in
    let o = g.O.Origin.first in
    let r = c.requires.told told in
    let f = c.args.found in
    let b : Base g.row.D.Denot g.row.O.Denot = record { disk = c.args.disk; log = f.log; root = c.args.root; durable = f.log.first + length f.log.buffered; of = record {} } in
    let rests = rests_opened o d c.args.disk c.args.root f (f.log.first + length f.log.buffered) r.0 r.1 r.2 refl b refl refl refl refl in
    leaves_first o d b c.args.disk c.args.root refl r.0.log.none r.2 (quiet_leaves d g.met.D.Disk.only_now b (rests.quiet sound)).front

pub redo-requires-clause-begins : goal.redo-requires-clause-begins
redo-requires-clause-begins g c told =
    let d = g.D.Disk in
    let o = g.O.Origin.first in
    let r = c.requires.told told in
    let f = c.args.found in
    let root = c.args.root in
    let found = r.0.log in
    let b : Base g.row.D.Denot g.row.O.Denot = record { disk = c.args.disk; log = f.log; root = root; durable = c.next-durable.result; of = record {} } in
    let vs = c.as_slice.result.now in
    let kept : vs ≡ kept_visits root.file root.first (d.reads c.args.disk) = c.as_slice.ensures ∙ found.visits_are ∙ ap (kept_visits root.file root.first) (sym r.2) in
    record {
      rests = rests_opened o d c.args.disk root f c.next-durable.result r.0 r.1 r.2 c.next-durable.ensures b refl refl refl refl;
      starts = starts_opened o d root f r.0 r.2 b refl refl refl;
      empty = c.in-Ok.ensures.0;
      none = found.none;
      records = ap visit_bytes kept ∙ kept_bytes root.file root.first (d.reads c.args.disk);
      numbers = subst (AreNumbered root.first) (sym kept) (kept_numbers root.file root.first (d.reads c.args.disk));
      tables = found.tables ∙ ap tables_seen (sym c.as_slice.ensures);
      passed = subst (AllPass root.pages) (sym c.as_slice.ensures) found.passed;
    }

pub redo-requires-clause-passed : goal.redo-requires-clause-passed
redo-requires-clause-passed g c = let p = c.requires.passed in (p.0, subst (AllPass p.0) (sym c.as_slice.ensures) p.1)

pub returns-in-Ok-redo-clause-opened : goal.returns-in-Ok-redo-clause-opened
returns-in-Ok-redo-clause-opened g c told =
    let d = g.D.Disk in
    let o = g.O.Origin.first in
    let r = c.requires.told told in
    let f = c.args.found in
    let e = c.in-Ok-redo.ensures in
    let a : Base g.row.D.Denot g.row.O.Denot = record { disk = c.args.disk; log = f.log; root = c.args.root; durable = c.next-durable.result; of = record {} } in
    let none = r.0.log.none in
    record {
      root_is = e.keeps.0.root;
      none = none_waits a.log c.redo.new.self.base.log e.keeps.0.waits none;
      fold = (e.fold told).0;
      state = λ sound. state_first o d a c.redo.new.self.base c.args.root refl none r.2 ((e.fold told).1 sound);
      next = e.keeps.0.next ∙ omega (arith, r.0.log.kept.next_is, ap (λ (l : List (List ℕ)). length l) none);
      passes = (r.0.log.sound, subst (AllPass c.args.root.pages) r.0.log.visits_are r.0.log.passed);
      pages = pages_opened o d a c.args.root refl r.2 (e.pages told);
      tables = ap (λ t. t.tables) e.keeps.1 ∙ r.0.log.tables ∙ tables_found o c.args.root f.visits r.0.log.visits_are;
    }
