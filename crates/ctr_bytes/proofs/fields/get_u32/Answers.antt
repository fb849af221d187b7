use Rattle.std.proofs.Common.{◌∙◌, ap}
use Rattle.ctr_bytes.specs.Fields.{with_field}
use Rattle.ctr_bytes.proofs.FieldLaws.{got_behind, put_back}
use Rattle.ctr_bytes.proofs.fields.get_u32.Goals as goal

pub returns-clause-got : goal.returns-clause-got
returns-clause-got c = c.read_u32.ensures ∙ got_behind 4 c.args.at c.args.bytes.now

pub returns-clause-put_back : goal.returns-clause-put_back
returns-clause-put_back c =
    ap (λ x. with_field 4 c.args.at x c.args.bytes.now) (returns-clause-got c) ∙ put_back 4 c.args.at c.args.bytes.now c.requires (λ k. (c.type_inv.bytes k).fits)
