use Rattle.std.proofs.Common.{◌≡◌, ◌∙◌, ℕ, List, [], sym, ap, subst}
use Rattle.std.specs.Prelude.{IsTrue}
use Rattle.std.proofs.lemmas.Result.{err_from_is_err_and}
use Rattle.ctr_base.specs.ctr_home.declared.block.Block.TheVariants.{Root as RootBlock}
use Rattle.ctr_base.specs.ctr_home.Blocks.{value_of}
use Rattle.ctr_base.specs.log_Visit.{Visit}
use Rattle.ctr_base.specs.log_Logs.{Log}
use Rattle.ctr_base.specs.log_Kept.{OpensKept, WritesBehind}
use Rattle.ctr_base.specs.log_Visits.{kept_visits}
use Rattle.ctr_base.proofs.RootLaws.{one_root}
use Rattle.ctr_base.specs.ctr_home.declared.root.Root.{Root}
use Rattle.ctr_store.specs.RecordChecks.{CountsPages, AllPass, tables_seen}
use Rattle.ctr_store.proofs.OpenLaws.{opens_room, writes_room, fresh_seen, log_refused, log_faults}
use Rattle.ctr_store.proofs.SoundLaws.{log_undamaged}
use Rattle.ctr_store.proofs.opening.read_log.Goals as goal

pub new-seen-requires : goal.new-seen-requires
new-seen-requires g c told r says = ap (λ (x : Root). x.pages) (one_root (value_of RootBlock g.O.Origin.first) c.args.root.now r (c.requires.says told) says)

pub returns-clause-found : goal.returns-clause-found
returns-clause-found g c told =
    let root = c.args.root.now in
    let image = g.D.Disk.reads c.args.disk.now in
    let e = c.in_ok-log.ensures in
    let parts = c.into_parts-meta.ensures in
    let seen = c.read_all.new.visitor in
    let all : seen.visits ≡ kept_visits root.file root.first image = ((e.visited told).0 [] (fresh_seen (λ n. IsTrue g.D.Disk.tells → CountsPages g.O.Origin.first n) root.pages c.new-seen.result c.new-seen.ensures (λ t r says. ap (λ (x : Root). x.pages) (one_root (value_of RootBlock g.O.Origin.first) c.args.root.now r (c.requires.says t) says)))).0 in
    let counted : seen.pages ≡ root.pages = parts.passed.2 told root (c.requires.says told) in
    let log = c.in_ok-log.log in
    let same = c.reserve.ensures.same in
    let room = c.reserve.new.self.room in
    record {
      kept = subst (OpensKept root.file root.first image) (sym same) (opens_room root.file root.first image log room (e.found told));
      none = ap (λ (l : Log). l.buffered) same ∙ e.none;
      visits_are = parts.visits ∙ all;
      passed = subst (λ (vs : List Visit). AllPass root.pages vs) (sym parts.visits) (subst (λ (n : ℕ). AllPass n seen.visits) counted parts.passed.0);
      tables = parts.tables ∙ parts.passed.1 ∙ ap tables_seen (sym parts.visits);
      sound = (e.visited told).1;
      goes_on = λ rs holds. subst (λ (l : Log). WritesBehind root.file root.first l image) (sym same) (writes_room root.file root.first image log room (e.goes_on rs told holds));
    }

pub returns-clause-passed : goal.returns-clause-passed
returns-clause-passed g c =
    let parts = c.into_parts-meta.ensures in
    let seen = c.read_all.new.visitor in
    (seen.pages, subst (λ (vs : List Visit). AllPass seen.pages vs) (sym parts.visits) parts.passed.0)

pub returns-in_err-log-clause-refused : goal.returns-in_err-log-clause-refused
returns-in_err-log-clause-refused g c told =
    let p = err_from_is_err_and c.from_residual.result c.from_residual.ensures.1 in
    let root = c.args.root.now in
    let image = g.D.Disk.reads c.args.disk.now in
    let r = c.in_err-log.ensures.refused in
    rw (p.1, p.2)
    (log_refused (λ n. IsTrue g.D.Disk.tells → CountsPages g.O.Origin.first n) root image c.new-seen.result c.read_all.new.visitor r.0 c.in_err-log.field-0.0
    (λ n counts. counts told root (c.requires.says told)) (fresh_seen (λ n. IsTrue g.D.Disk.tells → CountsPages g.O.Origin.first n) root.pages c.new-seen.result c.new-seen.ensures (λ t r says. ap (λ (x : Root). x.pages) (one_root (value_of RootBlock g.O.Origin.first) c.args.root.now r (c.requires.says t) says))) r.1 (r.5 told) (r.6 told))

pub returns-in_err-log-clause-undamaged : goal.returns-in_err-log-clause-undamaged
returns-in_err-log-clause-undamaged g c told sound =
    let p = err_from_is_err_and c.from_residual.result c.from_residual.ensures.1 in
    let root = c.args.root.now in
    let image = g.D.Disk.reads c.args.disk.now in
    let r = c.in_err-log.ensures.refused in
    rw (p.1, p.2)
    (log_undamaged (λ n. IsTrue g.D.Disk.tells → CountsPages g.O.Origin.first n) root image c.new-seen.result c.read_all.new.visitor r.0 c.in_err-log.field-0.0 sound
    (λ n counts. counts told root (c.requires.says told)) (fresh_seen (λ n. IsTrue g.D.Disk.tells → CountsPages g.O.Origin.first n) root.pages c.new-seen.result c.new-seen.ensures (λ t r says. ap (λ (x : Root). x.pages) (one_root (value_of RootBlock g.O.Origin.first) c.args.root.now r (c.requires.says t) says))) r.1 (r.5 told) (r.4 told))

pub returns-in_err-log-clause-counts : goal.returns-in_err-log-clause-counts
returns-in_err-log-clause-counts g c =
    let p = err_from_is_err_and c.from_residual.result c.from_residual.ensures.1 in
    let root = c.args.root.now in
    let counts = λ (n : ℕ). IsTrue g.D.Disk.tells → CountsPages g.O.Origin.first n in
    let d = g.D.Disk in
    let r = c.in_err-log.ensures.refused in
    let none = fresh_seen counts root.pages c.new-seen.result c.new-seen.ensures (λ t r says. ap (λ (x : Root). x.pages) (one_root (value_of RootBlock g.O.Origin.first) root r (c.requires.says t) says)) in
    rw (p.1, p.2)
    (record {
      later = r.2.later;
      faults = log_faults counts c.new-seen.result r.0 c.in_err-log.field-0.0 none r.1 r.3 (d.faults_of c.args.disk.now) (d.faults_of c.read_all.new.disk) r.2.faults;
      stray = r.2.stray;
    })
