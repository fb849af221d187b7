use Rattle.std.proofs.Common.{◌∙◌, ap}
use Rattle.ctr_bytes.specs.Fields.{field}
use Rattle.ctr_bytes.proofs.FieldLaws.{put_in, put_got}
use Rattle.ctr_bytes.proofs.fields.put_u32.Goals as goal

pub returns-clause-put : goal.returns-clause-put
returns-clause-put c = put_in 4 c.args.at c.args.v c.args.bytes.now c.write_u32.new.buf c.requires c.write_u32.ensures

pub returns-clause-got : goal.returns-clause-got
returns-clause-got c = ap (field 4 c.args.at) (returns-clause-put c) ∙ put_got 4 c.args.at c.args.v c.args.bytes.now c.requires c.ranges.v.fits
