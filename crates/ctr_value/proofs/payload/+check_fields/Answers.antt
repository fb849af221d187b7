use Rattle.std.proofs.Common.{◌+◌, ap}
use Rattle.std.proofs.lemmas.Result.{on_ok_weaker}
use Rattle.ctr_value.proofs.PayloadLoops.{more_there}
use Rattle.ctr_value.proofs.payload.+check_fields.Goals as goal

pub returns-clause-passed : goal.returns-clause-passed
returns-clause-passed t c =
    let at = c.args.at in
    on_ok_weaker c.check_fields.result
    (more_there c.args.columns.now c.in-Some.others.now c.in-Some.column.now at (at + c.field_width.result) c.args.payload.now c.in-Some.ensures.cases.0 (ap (λ w. at + w) c.field_width.ensures.value) c.in_ok-check_field.ensures.passed)
    c.check_fields.ensures.passed
