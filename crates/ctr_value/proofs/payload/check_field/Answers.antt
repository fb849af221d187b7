use Rattle.std.proofs.Common.{◌≤◌, ◌+◌, length, sym, subst}
use Rattle.ctr_bytes.proofs.FieldLaws.{AreBytes}
use Rattle.ctr_value.specs.Payload.{field_width, HasField}
use Rattle.ctr_value.proofs.PayloadLoops.{number_there}
use Rattle.ctr_value.proofs.payload.check_field.Goals as goal

pub returns-in-Int-clause-passed : goal.returns-in-Int-clause-passed
returns-in-Int-clause-passed c =
    let below : AreBytes c.args.payload.now = λ k. (c.type_inv.payload k).fits in
    subst (λ k. HasField k c.args.at c.args.payload.now) (sym c.in-Int.is) (number_there c.args.at c.args.payload.now below (subst (λ k. c.args.at + field_width k ≤ length c.args.payload.now) c.in-Int.is c.requires))
