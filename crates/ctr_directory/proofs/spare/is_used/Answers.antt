use Rattle.std.proofs.Common.{◌≡◌, ◌+◌, ◌*◌, ℕ, sym, ◌∙◌, ap}
use Rattle.std.specs.Prelude.{nat_eq}
use Rattle.ctr_rec.specs.bytes_Fields.{field}
use Rattle.ctr_page.specs.Columns.{slot_start}
use Rattle.ctr_directory.proofs.Agreeing.{used_byte}
use Rattle.ctr_directory.proofs.spare.is_used.Goals as goal

pub returns : goal.returns
returns c = λ kinds sized lt.
    let slot = c.args.slot in
    let page = c.args.page.now in
    let there : 16 + slot * c.args.size ≡ slot_start kinds slot = ap (λ (s : ℕ). 16 + slot * s) sized in
    ap (λ (b : ℕ). nat_eq b 1) (c.get_u8.ensures.got ∙ ap (λ (k : ℕ). field 1 k page) there) ∙ sym (used_byte kinds slot page c.requires.whole lt)
