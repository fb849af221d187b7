use Rattle.std.proofs.Common.{◌≡◌, sym, subst, arith}
use Rattle.std.proofs.lemmas.Result.{err_from_is_err_and}
use Rattle.std.specs.Prelude.{Ok}
use Rattle.ctr_home.specs.declared.root.Root.{Root}
use Rattle.ctr_home.specs.Blocks.{BlockValue}
use Rattle.ctr_home.specs.Roots.{SaysOrRefuses}
use Rattle.ctr_home.proofs.RootLemmas.{says, refuses, root_in}
use Rattle.ctr_home.proofs.root.root_of.Goals as goal

pub returns-in_err-check_root-clause-answer : goal.returns-in_err-check_root-clause-answer
returns-in_err-check_root-clause-answer c =
    let p = err_from_is_err_and c.from_residual.result c.from_residual.ensures.1 in
    let v : BlockValue = record { number = c.args.number; stamp = c.args.stamp; body = c.args.body.now } in
    rw (p.1, p.2) (refuses c.args.home v c.in_err-check_root.field-0.0 (sym c.in_err-check_root.ensures.row))

pub returns-clause-answer : goal.returns-clause-answer
returns-clause-answer c =
    let v : BlockValue = record { number = c.args.number; stamp = c.args.stamp; body = c.args.body.now } in
    let read : record { stamp = c.args.stamp; format = c.get_u32.result; file = c.get_u8.result; first = c.get_u64.result; pages = c.get_u32-2.result } ≡ root_in v = (λ i. record { stamp = c.args.stamp; format = c.get_u32.ensures.got i; file = c.get_u8.ensures.got i; first = c.get_u64.ensures.got i; pages = c.get_u32-2.ensures.got i }) in
    let P : Root → Type 0 = λ r. SaysOrRefuses c.args.home v (Ok r) in
    subst P (sym read) (says c.args.home v (omega arith) c.fits-body (sym c.in_ok-check_root.ensures.row))
