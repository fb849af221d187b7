use Rattle.std.proofs.Common.{◌++◌, ◌+◌, [], length, length-append, sym, arith, refl}
use Rattle.ctr_bytes.specs.Fields.{spelled}
use Rattle.ctr_rec.proofs.Laws.{put_more, length-more}
use Rattle.ctr_rec.proofs.ListLaws.{length-checkpoint}
use Rattle.ctr_rec.proofs.encoding.encode_lists.Goals as goal

pub put_u8-requires : goal.put_u8-requires
put_u8-requires c = omega (arith, length-checkpoint c.args.next c.args.lists.now, c.requires.room)

pub put_u64-requires : goal.put_u64-requires
put_u64-requires c =
    let long = length-checkpoint c.args.next c.args.lists.now in
    let one = length-more 1 1 0 c.args.into.now c.put_u8.new.bytes (omega (arith, long, c.requires.room)) c.put_u8.ensures.put in
    omega (arith, long, c.requires.room, one)

pub copy-requires : goal.copy-requires
copy-requires c =
    let long = length-checkpoint c.args.next c.args.lists.now in
    let one = length-more 1 1 0 c.args.into.now c.put_u8.new.bytes (omega (arith, long, c.requires.room)) c.put_u8.ensures.put in
    let two = length-more 8 c.args.next 1 c.put_u8.new.bytes c.put_u64.new.bytes (omega (arith, long, c.requires.room, one)) c.put_u64.ensures.put in
    omega (arith, long, c.requires.room, one, two)

pub put_u8-requires-2 : goal.put_u8-requires-2
put_u8-requires-2 c =
    let long = length-checkpoint c.args.next c.args.lists.now in
    let one = length-more 1 1 0 c.args.into.now c.put_u8.new.bytes (omega (arith, long, c.requires.room)) c.put_u8.ensures.put in
    let two = length-more 8 c.args.next 1 c.put_u8.new.bytes c.put_u64.new.bytes (omega (arith, long, c.requires.room, one)) c.put_u64.ensures.put in
    omega (arith, long, c.requires.room, one, two, c.copy.ensures.long)

pub returns-clause-number : goal.returns-clause-number
returns-clause-number c = sym (length-checkpoint c.args.next c.args.lists.now)

pub returns-clause-bytes : goal.returns-clause-bytes
returns-clause-bytes c =
    let lists = c.args.lists.now in
    let old = c.args.into.now in
    let a = put_more 1 1 0 1 [] old old c.put_u8.new.bytes (omega arith) refl refl c.put_u8.ensures.put in
    let x = spelled 1 1 in
    let b = put_more 8 c.args.next 1 9 x old c.put_u8.new.bytes c.put_u64.new.bytes (omega arith) a.0 a.1 c.put_u64.ensures.put in
    let y = x ++ spelled 8 c.args.next in
    let d = c.copy.ensures.put y old b.0 b.1 in
    let e = put_more 1 0 (9 + length lists) (10 + length lists) (y ++ lists) old c.copy.new.into c.put_u8-2.new.bytes (omega arith) (omega (arith, b.0, length-append y lists)) d c.put_u8-2.ensures.put in
    e.1
