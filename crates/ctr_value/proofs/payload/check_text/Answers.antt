use Rattle.std.proofs.Common.{◌+◌, take, drop, slice_index, refl}
use Rattle.ctr_print.specs.types_Value.TheVariants as value
use Rattle.ctr_value.proofs.PayloadLoops.{text_found}
use Rattle.ctr_value.proofs.payload.check_text.Goals as goal

pub returns-clause-passed : goal.returns-clause-passed
returns-clause-passed c =
    let at = c.args.at in
    let bytes = c.args.payload.now in
    let text = take (slice_index bytes at) (drop (at + 1) bytes) in
    let found = text_found c.args.most at bytes text c.requires c.if-len-most.false refl in
    (value.Chars text, found.0, found.1)
