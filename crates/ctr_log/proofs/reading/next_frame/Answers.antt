use Rattle.std.proofs.Common.{◌≡◌, ◌∙◌, ◌-◌, ◌∷◌, [], length, ap, sym, arith, min, max, Err}
use Rattle.std.proofs.lemmas.Result.{err_from_is_err_and}
use Rattle.ctr_home.specs.declared.checks.Check.{Check}
use Rattle.ctr_home.specs.Checks.{check_of, judged}
use Rattle.ctr_log.proofs.DamageLaws.{judged_damage, one_fails}
use Rattle.ctr_log.proofs.ReadLemmas.{frame_fits}
use Rattle.ctr_log.proofs.reading.next_frame.Goals as goal

pub returns-in_err-judge-clause-found : goal.returns-in_err-judge-clause-found
returns-in_err-judge-clause-found c =
    let p = err_from_is_err_and c.from_residual.result c.from_residual.ensures.1 in
    let n = length c.args.rest.now in
    let e = c.in_err-judge.field-0.0 in
    let told : judged c.args.file (check_of c.args.at (max 8 n) n ∷ []) ≡ Err e = ap (λ (k : Check). judged c.args.file (k ∷ [])) (sym c.at_least.ensures) ∙ sym c.in_err-judge.ensures.row in
    let fails = one_fails c.args.file c.args.at (max 8 n) n e told in
    rw (p.1, p.2) (judged_damage c.args.file (check_of c.args.at (max 8 n) n ∷ []) e told, λ b. let fits = frame_fits b.0 b.1 c.args.rest.now b.2 (omega arith) in fails (omega (arith, fits)))

pub returns-in_err-judge-2-clause-found : goal.returns-in_err-judge-2-clause-found
returns-in_err-judge-2-clause-found c =
    let p = err_from_is_err_and c.from_residual-in_err-judge-2.result c.from_residual-in_err-judge-2.ensures.1 in
    let n = length c.args.rest.now in
    let r = c.get_u64-record.result in
    let e = c.in_err-judge-2.field-0.0 in
    let told : judged c.args.file (check_of c.args.at (min (n - 8) r) r ∷ []) ≡ Err e = ap (λ (k : Check). judged c.args.file (k ∷ [])) (sym c.at_most.ensures) ∙ sym c.in_err-judge-2.ensures.row in
    let fails = one_fails c.args.file c.args.at (min (n - 8) r) r e told in
    rw (p.1, p.2) (judged_damage c.args.file (check_of c.args.at (min (n - 8) r) r ∷ []) e told, λ b. let fits = frame_fits b.0 b.1 c.args.rest.now b.2 (omega arith) in fails (omega (arith, fits, c.get_u64-record.ensures.got)))
