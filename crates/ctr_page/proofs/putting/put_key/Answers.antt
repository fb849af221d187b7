use Rattle.std.proofs.Common.{◌∙◌, ap, w64}
use Rattle.std.proofs.lemmas.Int.{to_z-of_z}
use Rattle.std.specs.Int.{cast_unsigned}
use Rattle.ctr_rec.specs.bytes_Fields.{with_field}
use Rattle.ctr_page.proofs.Puts.{field_put}
use Rattle.ctr_page.proofs.putting.put_key.Goals as goal

pub returns-clause-put : goal.returns-clause-put
returns-clause-put c =
    field_put 8 c.args.at (cast_unsigned w64 c.args.v) c.args.into.now c.put_i64.new.bytes c.requires
    (c.put_i64.ensures.put ∙ ap (λ z. with_field 8 c.args.at (cast_unsigned w64 z) c.args.into.now) (to_z-of_z w64 c.args.v c.ranges.v))
