use Rattle.std.proofs.Common.{◌≡◌, ℕ, List, ◌++◌, ◌+◌, ◌∙◌, ◌≤◌, [], length, drop, ap, arith, refl}
use Rattle.ctr_bytes.specs.Fields.{spelled, with_field}
use Rattle.ctr_bytes.proofs.FieldLaws.{length-with_field}
use Rattle.ctr_rec.specs.declared.table.Layout.{Layout}
use Rattle.ctr_rec.specs.Table.{bytes_of_field}
use Rattle.ctr_rec.specs.Spelling.{field_bytes, with_overlay}
use Rattle.ctr_rec.proofs.Laws.{put_more, length-parts}
use Rattle.ctr_rec.proofs.encoding.encode_fields.Goals as goal

-- the bytes are as many with a number in front
with_number : (n : ℕ) (old new : List ℕ) → 0 + 1 ≤ length old → new ≡ with_field 1 0 n old → length new ≡ length old
with_number n old new some is = ap length is ∙ length-with_field 1 0 n old some

pub put_u8-requires : goal.put_u8-requires
put_u8-requires c = omega (arith, length-parts c.args.parts.now, c.requires.room)

pub put-requires-clause-room : goal.put-requires-clause-room
put-requires-clause-room c =
    let is = c.layout-layout.ensures in
    let long = length-parts c.args.parts.now in
    let one = with_number c.layout-layout.result.number c.args.into.now c.put_u8.new.bytes (omega (arith, long, c.requires.room)) c.put_u8.ensures.put in
    omega (arith, long, c.requires.room, ap (λ (l : Layout). bytes_of_field l.first) is, one)

pub put-requires-2-clause-room : goal.put-requires-2-clause-room
put-requires-2-clause-room c =
    let is = c.layout-layout.ensures in
    let long = length-parts c.args.parts.now in
    let one = with_number c.layout-layout.result.number c.args.into.now c.put_u8.new.bytes (omega (arith, long, c.requires.room)) c.put_u8.ensures.put in
    omega (arith, long, c.requires.room, ap (λ (l : Layout). bytes_of_field l.first) is, ap (λ (l : Layout). bytes_of_field l.second) is, c.width-second.ensures, one, c.put.ensures.long)

pub put_overlay-requires-clause-room : goal.put_overlay-requires-clause-room
put_overlay-requires-clause-room c =
    let is = c.layout-layout.ensures in
    let long = length-parts c.args.parts.now in
    let one = with_number c.layout-layout.result.number c.args.into.now c.put_u8.new.bytes (omega (arith, long, c.requires.room)) c.put_u8.ensures.put in
    omega (arith, long, c.requires.room, ap (λ (l : Layout). bytes_of_field l.first) is, ap (λ (l : Layout). bytes_of_field l.second) is, c.width-second.ensures, c.width.ensures, one, c.put.ensures.long, c.put-2.ensures.long)

pub returns-clause-number : goal.returns-clause-number
returns-clause-number c =
    let is = c.layout-layout.ensures in
    omega (arith, length-parts c.args.parts.now, ap (λ (l : Layout). bytes_of_field l.first) is, ap (λ (l : Layout). bytes_of_field l.second) is, c.width-second.ensures, c.width.ensures, c.put_overlay.ensures.end)

pub returns-clause-bytes : goal.returns-clause-bytes
returns-clause-bytes c =
    let l = c.layout-layout.result in
    let p = c.args.parts.now in
    let old = c.args.into.now in
    let end = c.put_overlay.result in
    let a = put_more 1 l.number 0 1 [] old old c.put_u8.new.bytes (omega arith) refl refl c.put_u8.ensures.put in
    let x = spelled 1 l.number in
    let b = put_more (bytes_of_field l.first) p.first 1 (1 + c.width-second.result) x old c.put_u8.new.bytes c.put.new.into (omega (arith, c.width-second.ensures)) a.0 a.1 c.put.ensures.put in
    let y = x ++ spelled (bytes_of_field l.first) p.first in
    let d = put_more (bytes_of_field l.second) p.second (1 + c.width-second.result) (1 + c.width-second.result + c.width.result) y old c.put.new.into c.put-2.new.into (omega (arith, c.width.ensures)) b.0 b.1 c.put-2.ensures.put in
    c.put_overlay.ensures.put (field_bytes l p.first p.second) old d.0 d.1
    ∙ ap (λ (m : Layout). with_overlay (field_bytes m p.first p.second) m.flag p.overlay ++ drop end old) c.layout-layout.ensures
