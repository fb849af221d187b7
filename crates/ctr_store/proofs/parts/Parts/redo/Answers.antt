use Rattle.std.proofs.Common.{◌≡◌, ◌≤◌, ◌∙◌, ℕ, Some, List, slice_get, length, take, refl, sym, ap, subst, arith}
use Rattle.std.proofs.lemmas.Option.{slice_get_within, slice_get-get_or}
use Rattle.std.proofs.lemmas.Result.{err_from_is_err_and}
use Rattle.ctr_disk.specs.declared.fault.StoreFault.TheVariants.{Fault}
use Rattle.ctr_base.proofs.log_VisitLemmas.{ok_isnt}
use Rattle.ctr_rec.specs.declared.record.Record.{Record}
use Rattle.ctr_base.specs.redo_Images.{records_in}
use Rattle.ctr_base.specs.Base.{stored_of}
use Rattle.ctr_base.specs.BaseLaws.{rests_leaves, leaves_joined}
use Rattle.ctr_base.specs.KeptLaws.{base_kept, base_kept_on}
use Rattle.std.proofs.lemmas.List.{take_all}
use Rattle.ctr_base.specs.redo_States.{next_of}
use Rattle.ctr_store.specs.PageChecks.{PagesPass}
use Rattle.ctr_store.proofs.PageCheckLaws.{first_told}
use Rattle.ctr_store.specs.RecordChecks.{PassesAs, tables_seen}
use Rattle.ctr_store.specs.Redo.{IsNextRecord}
use Rattle.std.specs.Prelude.{IsTrue}
use Rattle.ctr_disk.specs.declared.disk.Disk.{Ghosts}
use Rattle.ctr_base.specs.log_Visit.{Visit}
use Rattle.ctr_base.specs.log_Kept.{kept_log}
use Rattle.ctr_base.specs.log_Visits.{visit_bytes}
use Rattle.ctr_base.specs.declared.base.Base.{Base}
use Rattle.ctr_store.proofs.SeenLaws.{next_seen, get_number, length_seen, tables_all}
use Rattle.ctr_store.proofs.RedoLaws.{redo_starts, redo_low, redo_ends}
use Rattle.ctr_store.proofs.parts.Parts.redo.Given.{Over}
use Rattle.ctr_store.proofs.parts.Parts.redo.Goals.{After-index-visits-i}
use Rattle.ctr_store.proofs.parts.Parts.redo.Goals as goal

-- the record that is to be redone
module _ (g : Over) (c : After-index-visits-i g) where
  here : slice_get c.args.visits.now c.loop-i.i ≡ Some c.index-visits-i.result
  here = slice_get-get_or c.args.visits.now c.loop-i.i c.index-visits-i.result c.loop-i-test.true ∙ ap Some (sym c.index-visits-i.is)

  module _ (told : IsTrue g.D.Disk.tells) where
    passes : (r : Record) × PassesAs c.args.self.now.base.root.pages c.index-visits-i.result.at (tables_seen (take c.loop-i.i c.args.visits.now)) c.index-visits-i.result.bytes r
    passes = (c.requires.begins told).passed c.loop-i.i c.index-visits-i.result here

    is_next : IsNextRecord g.D.Disk c.args.self.now.base c.loop-i.i passes.0
    is_next =
        let start = c.args.self.now.base in
        next_seen g.D.Disk start c.args.visits.now c.loop-i.i c.index-visits-i.result here (c.requires.begins told).records start.root.pages refl (tables_seen (take c.loop-i.i c.args.visits.now)) passes.0 passes.1

-- behind the last, all are
all_redone : {D O : Type 0} (g : Ghosts D) (s : Base D O) (vs : List Visit) (i : ℕ) → i ≤ length vs → length vs ≤ i → visit_bytes vs ≡ kept_log s.root.file s.root.first (g.reads s.disk) → i ≡ length (stored_of g s).records
all_redone g s vs i low high same = omega (arith, low, high, length_seen vs, ap (λ (x : List (List ℕ)). length (records_in x)) same)

pub loop-i-init : goal.loop-i-init
loop-i-init g c =
    let s = c.args.self.now in
    record {
      at_most = omega arith;
      doing = λ told. let b = c.requires.begins told in redo_starts g.O.Origin.first g.D.Disk s b.rests b.starts b.empty b.none;
      goes = λ told. rests_leaves g.D.Disk g.O.Origin.first g.met.D.Disk.only_now s.base (c.requires.begins told).rests;
      keeps = base_kept g.D.Disk s.base;
      meta = refl;
      faults = refl;
    }

pub redo_visit-requires-clause-passed : goal.redo_visit-requires-clause-passed
redo_visit-requires-clause-passed g c =
    let p = c.requires.passed in
    let q = p.1 c.loop-i.i c.index-visits-i.result (here g (goal.at.redo_visit-requires-clause-passed g c).After-index-visits-i) in
    (p.0, tables_seen (take c.loop-i.i c.args.visits.now), q.0, q.1)

pub returns-in_err-redo_visit-clause-goes : goal.returns-in_err-redo_visit-clause-goes
returns-in_err-redo_visit-clause-goes g c told sound =
    let l = c.loop-i.invariant in
    leaves_joined g.D.Disk c.args.self.now.base c.loop-i.self.base c.redo_visit.new.self.base ((l.doing told).moves sound) (l.goes told sound) (c.redo_visit.ensures.goes told sound)

pub returns-in_err-redo_visit-clause-refused : goal.returns-in_err-redo_visit-clause-refused
returns-in_err-redo_visit-clause-refused g c told =
    let p = err_from_is_err_and c.from_residual.result c.from_residual.ensures.1 in
    let low = redo_low g.O.Origin.first g.D.Disk c.args.self.now.base c.loop-i.i c.loop-i.self (c.loop-i.invariant.doing told) in
    rw (p.1, p.2) (c.in_err-redo_visit.ensures.refused told low)

pub loop-i-preserved : goal.loop-i-preserved
loop-i-preserved g c =
    let d = g.D.Disk in
    let l = c.loop-i.invariant in
    let i = c.loop-i.i in
    let start = c.args.self.now.base in
    let vs = c.args.visits.now in
    let v = c.index-visits-i.result in
    let at = (goal.at.loop-i-preserved g c).After-index-visits-i in
    let e = c.in_ok-redo_visit.ensures in
    let within = slice_get_within vs i v (here g at) in
    record {
      at_most = omega (arith, within);
      doing = λ told.
          let q = passes g at told in
          e.redone start i q.0 told (l.doing told) (is_next g at told) q.1.logged.record_is q.1.bytes_are (get_number vs start.root.first i v (c.requires.begins told).numbers (here g at));
      goes = λ told sound. leaves_joined d start c.loop-i.self.base c.redo_visit.new.self.base ((l.doing told).moves sound) (l.goes told sound) (c.redo_visit.ensures.goes told sound);
      keeps = base_kept_on g.D.Disk start c.loop-i.self.base c.redo_visit.new.self.base l.keeps c.redo_visit.ensures.keeps.0;
      meta = c.redo_visit.ensures.keeps.1 ∙ l.meta;
      faults = e.faults.fine (ok_isnt c.in_ok-redo_visit.field-0 Fault) ∙ l.faults;
    }

pub returns-clause-fold : goal.returns-clause-fold
returns-clause-fold g c told =
    let d = g.D.Disk in
    let l = c.loop-i.invariant in
    let s = c.args.self.now in
    let vs = c.args.visits.now in
    let b = c.requires.begins told in
    let count = all_redone d s.base vs c.loop-i.i l.at_most c.loop-i-test.false b.records in
    let doing = l.doing told in (
      redo_ends g.O.Origin.first d s.base c.loop-i.i c.loop-i.self doing (λ sound. count)
          (λ sound. ap (λ t. t.tables) l.meta ∙ b.tables ∙ tables_all vs (stored_of d s.base).records c.loop-i.i (ap records_in b.records) count),
      doing.moves,
    )

pub returns-clause-pages : goal.returns-clause-pages
returns-clause-pages g c told =
    let l = c.loop-i.invariant in
    let s = c.args.self.now.base in
    let i = stored_of g.D.Disk s in
    let count = all_redone g.D.Disk s c.args.visits.now c.loop-i.i l.at_most c.loop-i-test.false (c.requires.begins told).records in
    subst (PagesPass (next_of i) g.O.Origin.first) (take_all c.loop-i.i i.records (omega (arith, count))) (l.doing told).checked

pub returns-in_err-redo_visit-clause-pages : goal.returns-in_err-redo_visit-clause-pages
returns-in_err-redo_visit-clause-pages g c told =
    let p = err_from_is_err_and c.from_residual.result c.from_residual.ensures.1 in
    let start = c.args.self.now.base in
    let at = (goal.at.returns-in_err-redo_visit-clause-pages g c).After-index-visits-i in
    let q = passes g at told in
    let next = is_next g at told in
    let doing = c.loop-i.invariant.doing told in
    let stored = stored_of g.D.Disk start in
    rw (p.1, p.2)
    (first_told (next_of stored) g.O.Origin.first stored.records c.loop-i.i q.0 c.in_err-redo_visit.field-0.0 next.there doing.checked
    (c.in_err-redo_visit.ensures.fails start c.loop-i.i q.0 told doing next q.1.logged.record_is q.1.bytes_are))
