use Rattle.std.proofs.Common.{arith}
use Rattle.ctr_rec.specs.Table.{layout}
use Rattle.ctr_rec.proofs.Reading.{passed, wanted-flag, lies, read_back}
use Rattle.ctr_rec.proofs.fields.parts_in.Goals as goal

pub number-requires : goal.number-requires
number-requires c =
    let p = passed (layout c.args.tag) c.args.bytes.now c.requires.checked in
    rw c.layout-layout.ensures (omega (arith, wanted-flag (layout c.args.tag) c.args.bytes.now, p.whole))

pub number-requires-2 : goal.number-requires-2
number-requires-2 c =
    let p = passed (layout c.args.tag) c.args.bytes.now c.requires.checked in
    rw (c.width-second.ensures, c.layout-layout.ensures) (omega (arith, wanted-flag (layout c.args.tag) c.args.bytes.now, p.whole))

pub overlay_of-requires : goal.overlay_of-requires
overlay_of-requires c =
    let p = passed (layout c.args.tag) c.args.bytes.now c.requires.checked in
    rw c.layout-layout.ensures (λ ne. (lies (layout c.args.tag) c.args.bytes.now ne p.overlay p.whole).long)

pub returns-clause-bytes : goal.returns-clause-bytes
returns-clause-bytes c =
    rw (c.number.ensures, c.number-2.ensures, c.overlay_of.ensures, c.width-second.ensures, c.layout-layout.ensures)
    (read_back c.args.tag c.args.bytes.now c.requires.number c.requires.checked (λ k. (c.type_inv.bytes k).fits)).1

pub returns-clause-fits : goal.returns-clause-fits
returns-clause-fits c =
    rw (c.number.ensures, c.number-2.ensures, c.overlay_of.ensures, c.width-second.ensures, c.layout-layout.ensures)
    (read_back c.args.tag c.args.bytes.now c.requires.number c.requires.checked (λ k. (c.type_inv.bytes k).fits)).0
