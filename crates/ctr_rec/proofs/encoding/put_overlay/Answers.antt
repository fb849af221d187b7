use Rattle.std.proofs.Common.{◌++◌, ◌+◌, ◌∙◌, List, ℕ, length, drop, ap, sym, arith}
use Rattle.ctr_bytes.specs.Fields.{spelled}
use Rattle.ctr_rec.specs.Spelling.{with_overlay}
use Rattle.ctr_rec.proofs.Laws.{put_more}
use Rattle.ctr_rec.proofs.encoding.put_overlay.Goals as goal

pub returns-clause-put : goal.returns-clause-put
returns-clause-put c = λ front old is filled.
    let at = c.args.at in
    let o = c.in-Some.overlay in
    let bytes = c.as_slice-bytes.result.now in
    let a = put_more 1 c.args.flag at (at + 1) front old c.args.into.now c.put_u8.new.bytes (omega arith) is filled c.put_u8.ensures.put in
    let f1 = front ++ spelled 1 c.args.flag in
    let b = put_more 4 o.page (at + 1) (at + 5) f1 old c.put_u8.new.bytes c.put_u32.new.bytes (omega arith) a.0 a.1 c.put_u32.ensures.put in
    let f2 = f1 ++ spelled 4 o.page in
    let d = put_more 2 o.offset (at + 5) (at + 7) f2 old c.put_u32.new.bytes c.put_u16.new.bytes (omega arith) b.0 b.1 c.put_u16.ensures.put in
    let f3 = f2 ++ spelled 2 o.offset in
    let e = put_more 2 (length bytes) (at + 7) (at + 9) f3 old c.put_u16.new.bytes c.put_u16-2.new.bytes (omega arith) d.0 d.1 c.put_u16-2.ensures.put in
    c.copy.ensures.put (f3 ++ spelled 2 (length bytes)) old e.0 e.1
    ∙ ap (λ (l : List ℕ). (f3 ++ spelled 2 (length l)) ++ l ++ drop (at + 9 + length bytes) old) c.as_slice-bytes.ensures
    ∙ ap (λ x. with_overlay front c.args.flag x ++ drop (at + 9 + length bytes) old) (sym c.in-Some.is)
