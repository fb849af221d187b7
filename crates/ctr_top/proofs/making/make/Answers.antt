use Rattle.std.specs.Prelude.{Ok, Err}
use Rattle.std.proofs.Common.{◌∙◌, sym, subst}
use Rattle.ctr_top.specs.Top.{MakeWhy}
use Rattle.ctr_top.proofs.MakeLemmas.{makes_over, made_memory, failed_why, failed_fine}
use Rattle.ctr_top.proofs.making.make.Goals as goal

pub returns-in-Ok-clause-makes : goal.returns-in-Ok-clause-makes
returns-in-Ok-clause-makes g c =
    let d = g.D.Disk in
    let old = c.args.disk in
    let t = c.without_tape.ensures in
    let e = c.in-Ok.ensures in
    let is = t.ending ∙ c.made.ensures in
    makes_over d old c.without_tape.result (t.tape, t.undone) c.in-Ok.disk t.disk e.any_moment (λ told fine. e.made told) e.untouched
    (subst (MakeWhy d old c.in-Ok.disk) (sym is) (e.answer, e.faults.fine (λ not. absurd (cc not)))) e.moves.1

pub returns-in-Err-clause-makes : goal.returns-in-Err-clause-makes
returns-in-Err-clause-makes g c =
    let d = g.D.Disk in
    let old = c.args.disk in
    let t = c.without_tape-in-Err.ensures in
    let e = c.in-Err.ensures in
    let is = t.ending ∙ c.made-in-Err.ensures in
    makes_over d old c.without_tape-in-Err.result (t.tape, t.undone) c.in-Err.disk t.disk e.any_moment (λ told fine. absurd (failed_fine c.in-Err.error (sym is ∙ fine))) e.untouched
    (subst (MakeWhy d old c.in-Err.disk) (sym is) (failed_why d old c.in-Err.disk c.in-Err.error e.answer e.faults)) e.moves.1

pub returns-in-Ok-clause-taken : goal.returns-in-Ok-clause-taken
returns-in-Ok-clause-taken g c = λ is. made_memory (Ok tt) (sym (c.without_tape.ensures.ending ∙ c.made.ensures) ∙ is)

pub returns-in-Err-clause-taken : goal.returns-in-Err-clause-taken
returns-in-Err-clause-taken g c = λ is. made_memory (Err c.in-Err.error) (sym (c.without_tape-in-Err.ensures.ending ∙ c.made-in-Err.ensures) ∙ is)
