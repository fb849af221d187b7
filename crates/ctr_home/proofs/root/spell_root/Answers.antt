use Rattle.std.proofs.Common.{◌∙◌, ap, arith, replicate}
use Rattle.ctr_bytes.specs.Fields.{with_field}
use Rattle.ctr_home.proofs.RootLemmas.{all_put}
use Rattle.ctr_home.proofs.root.spell_root.Goals as goal

pub returns : goal.returns
returns c =
    let r = c.args.root.now in
    let b2 = c.put_u32.ensures.put ∙ ap (with_field 4 8 r.format) c.put_u64.ensures.put in
    let b3 = c.put_u8.ensures.put ∙ ap (with_field 1 12 r.file) b2 in
    let b4 = c.put_u64-2.ensures.put ∙ ap (with_field 8 13 r.first) b3 in
    let b5 = c.put_u32-2.ensures.put ∙ ap (with_field 4 21 r.pages) b4 in
    b5 ∙ all_put r (replicate 25 0) (omega arith)
