use Rattle.std.proofs.Common.{◌≡◌, ◌∙◌, ◌++◌, [], ◌∷◌, List, inr, sym, ap, subst}
use Rattle.std.specs.Prelude.{IsTrue}
use Rattle.std.proofs.lemmas.Result.{on_ok_weaker}
use Rattle.ctr_base.specs.log_Visit.{Visit}
use Rattle.ctr_base.specs.log_Visits.{visit_of}
use Rattle.ctr_base.specs.log_ReadError.TheVariants.{Store}
use Rattle.ctr_base.specs.meta_Tables.{Tables}
use Rattle.ctr_store.specs.RecordChecks.{SeenLog, FailsAs, AllPass, CountsPages, tables_seen}
use Rattle.ctr_store.specs.RecordChecks.{PassesAs}
use Rattle.ctr_store.proofs.SeenLaws.{passed_more}
use Rattle.ctr_store.proofs.seen.SeenVisitor.visit.Goals as goal

pub returns-in-Ok-clause-given : goal.returns-in-Ok-clause-given
returns-in-Ok-clause-given g c =
    let inv = c.self.invariant in
    let a = c.self.inside in
    let old = c.args.self.now in
    let v = visit_of c.args.lsn c.args.file c.args.at c.args.bytes.now in
    let pages = c.keep.ensures.pages in
    let tables : a.meta.tables ≡ tables_seen a.visits = inv.tables in
    let passes : PassesAs a.pages c.args.at (tables_seen a.visits) c.args.bytes.now c.in-Ok.rec = subst (λ (t : Tables). PassesAs a.pages c.args.at t c.args.bytes.now c.in-Ok.rec) tables c.in-Ok.ensures in
    let more : AllPass a.pages (a.visits ++ v ∷ []) = passed_more a.pages a.visits v inv.passed c.in-Ok.rec passes in
    on_ok_weaker c.keep.result
    (λ given before seen.
    let all : c.keep.new.self.visits ≡ before ++ v ∷ [] = given ∙ ap (λ (l : List Visit). l ++ v ∷ []) seen.0 in
    let same : a.pages ≡ c.keep.new.self.pages = ap (λ (s : SeenLog). s.pages) c.self.view_is ∙ sym pages in
    let front : a.visits ≡ before = ap (λ (s : SeenLog). s.visits) c.self.view_is ∙ seen.0 in
    (all, subst (λ n. AllPass n (before ++ v ∷ [])) same (subst (λ (l : List Visit). AllPass a.pages (l ++ v ∷ [])) front more), subst (λ n. IsTrue g.D.Disk.tells → CountsPages g.O.Origin.first n) same inv.counts))
    c.keep.ensures.given

pub returns-in-Err-clause-because : goal.returns-in-Err-clause-because
returns-in-Err-clause-because g c before seen =
    let inv = c.self.invariant in
    let a = c.self.inside in
    let tables : a.meta.tables ≡ tables_seen before = inv.tables ∙ ap (λ (s : SeenLog). tables_seen s.visits) c.self.view_is ∙ ap tables_seen seen.0 in
    let fails : FailsAs a.pages c.args.at (tables_seen before) c.args.bytes.now c.in-Err.bad = subst (λ (t : Tables). FailsAs a.pages c.args.at t c.args.bytes.now c.in-Err.bad) tables c.in-Err.ensures in
    inr (a.pages, inv.counts, subst (AllPass a.pages) (ap (λ (s : SeenLog). s.visits) c.self.view_is ∙ seen.0) inv.passed, (c.in-Err.bad, fails, ap Store c.damage_at.ensures))
