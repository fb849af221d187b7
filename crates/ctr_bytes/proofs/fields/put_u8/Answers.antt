use Rattle.std.proofs.Common.{◌∙◌, ap}
use Rattle.ctr_bytes.specs.Fields.{field}
use Rattle.ctr_bytes.proofs.FieldLaws.{put_byte, put_got}
use Rattle.ctr_bytes.proofs.fields.put_u8.Goals as goal

pub returns-clause-put : goal.returns-clause-put
returns-clause-put c = put_byte c.args.at c.args.v c.args.bytes.now c.requires c.ranges.v.fits

pub returns-clause-got : goal.returns-clause-got
returns-clause-got c = ap (field 1 c.args.at) (returns-clause-put c) ∙ put_got 1 c.args.at c.args.v c.args.bytes.now c.requires c.ranges.v.fits
