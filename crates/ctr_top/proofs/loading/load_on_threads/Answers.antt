use Rattle.std.proofs.Common.{◌∙◌, inl, inr, true, refl, sym, ap, subst}
use Rattle.std.specs.Prelude.{length}
use Rattle.ctr_database.specs.ctr_run.ctr_world.Opened.{CanRun}
use Rattle.ctr_top.specs.Top.{Loads}
use Rattle.ctr_top.proofs.LoadLemmas.{generated_runs, loads_ran, loads_refused}
use Rattle.ctr_top.proofs.loading.load_on_threads.Goals as goal

pub run_on_threads-ran-requires-clause-runs : goal.run_on_threads-ran-requires-clause-runs
run_on_threads-ran-requires-clause-runs g c κs within =
    let law = c.generated_lines_are_of_the_language.ensures in
    let a = c.args in
    subst CanRun (sym c.in-Ok.ensures) (generated_runs law.spelled law.few a.sessions a.count a.seed c.requires.sessions.0 c.requires.sessions.1 c.requires.count)

pub returns-in-Ok-clause-loads : goal.returns-in-Ok-clause-loads
returns-in-Ok-clause-loads g c =
    let d = g.D.Disk in
    let r = c.run_on_threads-ran in
    subst (λ ls. Loads d c.args.disk ls true (record { ending = c.ended.result; left = r.result.left })) c.in-Ok.ensures
    (loads_ran d c.args.disk c.in-Ok.script.lines true r.result c.ended.result c.ended.ensures r.ensures.runs (λ none. absurd (cc none)))

pub returns-in-Ok-clause-statements : goal.returns-in-Ok-clause-statements
returns-in-Ok-clause-statements g c = inl (c.len-statements.ensures ∙ ap length c.in-Ok.ensures)

pub returns-in-Err-clause-loads : goal.returns-in-Err-clause-loads
returns-in-Err-clause-loads g c =
    let t = c.without_tape.ensures in
    let laws = (g.met.D.Disk g.world.𝓛 g.world.𝓜 g.world.𝓡 ((λ s x. x), (λ x. x), (λ x. x), λ x. x)) in
    loads_refused g.D.Disk laws.earlier laws.only_now c.args.disk _ true c.without_tape.result t.disk t.tape t.undone t.totals t.ending

pub returns-in-Err-clause-statements : goal.returns-in-Err-clause-statements
returns-in-Err-clause-statements g c = inr c.without_tape.ensures.ending
