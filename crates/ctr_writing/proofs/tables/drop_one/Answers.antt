use Rattle.std.proofs.Common.{sym, ◌∙◌, ap, subst}
use Rattle.ctr_looks.specs.actions_Actions.{Drops}
use Rattle.ctr_looks.specs.page_turns_Acts.{ActsBy}
use Rattle.ctr_looks.specs.txn_Numbered.{NumbersHeld}
use Rattle.ctr_looks.specs.ctr_ddl.Tables.{MayDrop}
use Rattle.ctr_looks.specs.ctr_session_world.Ready.{StandOver}
use Rattle.ctr_looks.specs.ctr_session_world.World.{SessionsHeld}
use Rattle.ctr_looks.proofs.ctr_session_world.Disks.{disk_done, disk_failed, disk_one}
use Rattle.ctr_looks.proofs.ctr_session_world.Ready.{ready_logged}
use Rattle.ctr_writing.proofs.tables.drop_one.Goals as goal

pub returns-in-Ok-clause-over : goal.returns-in-Ok-clause-over
returns-in-Ok-clause-over g c =
    let a = c.args.store.now in
    let b = c.drop_live-dropped.new.store in
    let s = c.args.s in
    let old = c.args.txns.now in
    let new = c.spend_room.new.txns in
    let stand = c.requires.may.stand in
    let left = c.in-Ok.ensures.left in
    let one = c.in-Ok.ensures.one in
    let stays = c.spend_room.ensures.stays c.requires.item in
    let over : StandOver new b = record {
      next = ap (λ (n : NumbersHeld). n.next) c.spend_room.ensures.numbers ∙ stand.next ∙ sym left.1;
      items = c.spend_room.ensures.items a.meta b.meta c.requires.item left stand.items;
    } in
    (ready_logged s old new a b one.0 a.next over stays.0 one.1.going one.1.takes, stays.1)

pub returns-in-Ok-clause-told : goal.returns-in-Ok-clause-told
returns-in-Ok-clause-told g c = λ run opened locks statement tells sound next at.
    let a = c.args.store.now in
    let b = c.drop_live-dropped.new.store in
    let s = c.args.s in
    let e = c.args.entry in
    let h : SessionsHeld = record { txns = c.args.txns.now; locks = locks } in
    let may = subst (λ x. MayDrop x e a.now) (sym c.me-x.ensures) (c.a_table_may_be_written.ensures.dropped run opened a b h s statement next e c.requires.may.one at c.requires.there) in
    let acts = subst (λ x. ActsBy x (Drops e) a.now b.now) c.me-x.ensures (c.in-Ok.ensures.drops tells sound may) in
    let logged = c.a_turn_is_told_by_its_number.ensures.one g.O.Origin.first a b tt tells sound c.in-Ok.ensures.one (c.rests.ensures tells sound c.in-Ok.ensures.one.1.going) in
    c.a_turn_of_a_table_is_told.ensures.dropped run opened a b h s statement next e c.requires.may.one at c.requires.there acts logged c.spend_room.new.txns (c.spend_room.ensures.run c.requires.item)

pub returns-in-Err-clause-refused : goal.returns-in-Err-clause-refused
returns-in-Err-clause-refused g c = λ run opened locks statement tells sound next at.
    let a = c.args.store.now in
    let b = c.drop_live-dropped.new.store in
    let s = c.args.s in
    let e = c.args.entry in
    let h : SessionsHeld = record { txns = c.args.txns.now; locks = locks } in
    let may = subst (λ x. MayDrop x e a.now) (sym c.me-x.ensures) (c.a_table_may_be_written.ensures.dropped run opened a b h s statement next e c.requires.may.one at c.requires.there) in
    c.in-Err.ensures.refused tells sound may

pub returns-in-Err-clause-disk : goal.returns-in-Err-clause-disk
returns-in-Err-clause-disk g c = disk_failed g.O.Origin.first g.D.Disk _ _ c.in-Err.fault (disk_one g.O.Origin.first g.D.Disk c.in-Err.ensures.one.0 _ _ _ c.in-Err.ensures.one.1)

pub returns-in-Ok-clause-disk : goal.returns-in-Ok-clause-disk
returns-in-Ok-clause-disk g c = disk_done g.O.Origin.first g.D.Disk _ _ tt _ (disk_one g.O.Origin.first g.D.Disk c.in-Ok.ensures.one.0 _ _ _ c.in-Ok.ensures.one.1)
