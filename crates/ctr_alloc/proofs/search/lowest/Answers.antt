use Rattle.std.proofs.Common.{◌≡◌, ◌+◌, ◌/◌, ◌%◌, refl, subst, ap, ◌∙◌, arith}
use Rattle.std.specs.Int.{bit_at}
use Rattle.ctr_alloc.specs.Free.{marks_in, IsFree, taken_in}
use Rattle.ctr_alloc.proofs.BitLaws.{taken_to, taken_all, free_by}
use Rattle.ctr_alloc.proofs.search.lowest.Goals as goal

pub returns-in-None-clause-taken : goal.returns-in-None-clause-taken
returns-in-None-clause-taken c = taken_all c.args.page.now c.args.end ((c.args.end + 7) / 8) refl (c.in-None.ensures.none refl)

pub returns-in-Some-clause-taken : goal.returns-in-Some-clause-taken
returns-in-Some-clause-taken c = λ q third lt.
    taken_to c.args.page.now c.in-Some.at c.first_in.result c.in-Some.ensures.found.1 c.first_in.ensures.place c.first_in.ensures.first q third (omega (arith, lt, c.min.ensures))

pub returns-in-Some-clause-free : goal.returns-in-Some-clause-free
returns-in-Some-clause-free c = λ lt.
    let same : c.first_in.result ≡ c.min.result = omega (arith, lt, c.min.ensures) in
    subst (IsFree (taken_in c.args.page.now)) same
    (free_by c.args.page.now c.first_in.result (ap (λ at. bit_at (marks_in c.args.page.now at) (c.first_in.result % 8)) c.first_in.ensures.place ∙ c.first_in.ensures.zero))
