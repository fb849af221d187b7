use Rattle.std.proofs.Common.{◌<◌, ◌^◌, w64, to_z, of_z, refl, sym, ◌∙◌, ap, subst, inl, inr}
use Rattle.std.proofs.lemmas.Int.{to_z-of_z}
use Rattle.ctr_looks.specs.txn_Held.{number_drawn}
use Rattle.ctr_looks.specs.txn_Numbered.{NumbersHeld}
use Rattle.ctr_looks.specs.txn_Rooms.{HasItemRoom}
use Rattle.ctr_looks.specs.ctr_write.Laying.{Wish}
use Rattle.ctr_looks.specs.ctr_write.Stages.{IsCountedWrite, LeavesItem, MovesWrite, stage_items}
use Rattle.ctr_looks.specs.ctr_write.Steps.{EndsWrite, MayTakeTurn}
use Rattle.ctr_looks.specs.ctr_session_world.Ready.{StandOver}
use Rattle.ctr_looks.specs.ctr_session_world.World.{SessionsHeld}
use Rattle.ctr_looks.proofs.ctr_session_world.Ready.{turns_ready}
use Rattle.ctr_writing.specs.Rows.{wish_by}
use Rattle.ctr_writing.proofs.Rowing.{same_wish}
use Rattle.ctr_writing.proofs.Roomy.{between, more_apart, next_still, room_still}
use Rattle.ctr_writing.proofs.Turned.{turned_done, turned_failed}
use Rattle.ctr_writing.proofs.rows.lay.Goals as goal

-- ---- the next turn, and what is left of the sessions

pub returns-in-On-clause-stage : goal.returns-in-On-clause-stage
returns-in-On-clause-stage g c = (
  subst (λ w. IsCountedWrite w c.write-written.new.store.now.counted) c.in-On.is c.in-Ok.ensures.inside,
  c.keep_room.ensures.kept c.args.stage c.requires.at.1.1,
)

pub returns-in-On-clause-over : goal.returns-in-On-clause-over
returns-in-On-clause-over g c =
    let a = c.args.store.now in
    let b = c.write-written.new.store in
    let s = c.args.s in
    let old = c.args.txns.now in
    let new = c.keep_room.new.txns in
    let w = c.in-Ok.written in
    let left = c.in-Ok.ensures.left in
    let stand = c.requires.may.stand in
    let stays = c.keep_room.ensures.stays c.args.stage c.requires.at.1.1 in
    let over : StandOver new b = record {
      next = ap (λ (n : NumbersHeld). n.next) c.keep_room.ensures.numbers ∙ stand.next ∙ sym (next_still (stage_items c.args.stage) w a.meta b.meta left);
      items = c.keep_room.ensures.items c.args.stage a.meta b.meta c.requires.at.1.1 (subst (λ w. LeavesItem (stage_items c.args.stage) w a.meta b.meta) c.in-On.is left) stand.items;
    } in
    (turns_ready g.O.Origin.first g.D.Disk s old new a b w c.in-Ok.ensures.turns over stays.0, stays.1)

pub returns-in-Grown-clause-stage : goal.returns-in-Grown-clause-stage
returns-in-Grown-clause-stage g c =
    let had = c.requires.at.1.1 in
    let left = subst (λ w. LeavesItem (stage_items c.args.stage) w c.args.store.now.meta c.write-written.new.store.meta) c.in-Grown.is c.in-Ok.ensures.left in
    (tt, record { t = had.t; there = had.there; room = had.room ∙ left.0 })

pub returns-in-Grown-clause-over : goal.returns-in-Grown-clause-over
returns-in-Grown-clause-over g c =
    let a = c.args.store.now in
    let b = c.write-written.new.store in
    let txns = c.args.txns.now in
    let w = c.in-Ok.written in
    let stand = c.requires.may.stand in
    let left = subst (λ w. LeavesItem (stage_items c.args.stage) w a.meta b.meta) c.in-Grown.is c.in-Ok.ensures.left in
    let over : StandOver txns b = record { next = stand.next ∙ sym (next_still (stage_items c.args.stage) w a.meta b.meta c.in-Ok.ensures.left); items = subst (HasItemRoom txns) (sym left.1) stand.items } in
    (turns_ready g.O.Origin.first g.D.Disk c.args.s txns txns a b w c.in-Ok.ensures.turns over (λ q some two. refl), λ unasked. unasked)

pub returns-in-Done-clause-over : goal.returns-in-Done-clause-over
returns-in-Done-clause-over g c =
    let a = c.args.store.now in
    let b = c.write-written.new.store in
    let txns = c.args.txns.now in
    let w = c.in-Ok.written in
    let stand = c.requires.may.stand in
    let left = subst (λ w. LeavesItem (stage_items c.args.stage) w a.meta b.meta) c.in-Done.is c.in-Ok.ensures.left in
    let over : StandOver txns b = record { next = stand.next ∙ sym (next_still (stage_items c.args.stage) w a.meta b.meta c.in-Ok.ensures.left); items = room_still txns a.meta b.meta left.0 stand.items } in
    (turns_ready g.O.Origin.first g.D.Disk c.args.s txns txns a b w c.in-Ok.ensures.turns over (λ q some two. refl), λ unasked. unasked)

pub returns-in-Full-clause-over : goal.returns-in-Full-clause-over
returns-in-Full-clause-over g c =
    let a = c.args.store.now in
    let b = c.write-written.new.store in
    let txns = c.args.txns.now in
    let w = c.in-Ok.written in
    let stand = c.requires.may.stand in
    let left = subst (λ w. LeavesItem (stage_items c.args.stage) w a.meta b.meta) c.in-Full.is c.in-Ok.ensures.left in
    let over : StandOver txns b = record { next = stand.next ∙ sym (next_still (stage_items c.args.stage) w a.meta b.meta c.in-Ok.ensures.left); items = subst (HasItemRoom txns) (sym left) stand.items } in
    (turns_ready g.O.Origin.first g.D.Disk c.args.s txns txns a b w c.in-Ok.ensures.turns over (λ q some two. refl), λ unasked. unasked)

-- ---- it went on

pub returns-in-On-clause-went : goal.returns-in-On-clause-went
returns-in-On-clause-went g c = inl (subst (λ r. MovesWrite r c.args.store.now c.write-written.new.store) c.in-On.is c.in-Ok.ensures.numbers)

pub returns-in-Grown-clause-went : goal.returns-in-Grown-clause-went
returns-in-Grown-clause-went g c = inr (subst (λ r. MovesWrite r c.args.store.now c.write-written.new.store) c.in-Grown.is c.in-Ok.ensures.numbers)

-- ---- what is told

pub returns-in-On-clause-told : goal.returns-in-On-clause-told
returns-in-On-clause-told g c = λ run opened locks statement tells sound next keyed at.
    let a = c.args.store.now in
    let b = c.write-written.new.store in
    let s = c.args.s in
    let e = c.args.entry in
    let key = c.args.key in
    let head = c.args.head.now in
    let stage = c.args.stage in
    let w = c.in-Ok.written in
    let h : SessionsHeld = record { txns = c.args.txns.now; locks = locks } in
    let small = subst (λ n. n < 2 ^ 64) c.me-x.ensures c.me-x.type_inv in
    let wish = wish_by (number_drawn s h.txns) e key head in
    let asked = same_wish c.me-x.result (number_drawn s h.txns) e (to_z w64 (of_z w64 key)) key c.version-version.result head c.me-x.ensures (to_z-of_z w64 key c.ranges.key) c.version-version.ensures.said in
    let may = c.a_turn_of_a_row_may_be_taken.ensures run opened a b h s statement next e key head stage c.requires.may.one small keyed at in
    let turned = subst (λ (v : Wish). EndsWrite v stage a.now b.now w) asked (c.in-Ok.ensures.steps tells sound (subst (λ (v : Wish). MayTakeTurn v stage a.now) (sym asked) may)) in
    let ends = subst (λ r. EndsWrite wish stage a.now b.now r) c.in-On.is turned in
    let next_is = subst (λ r. MovesWrite r a b) c.in-On.is c.in-Ok.ensures.numbers in
    let rests = c.rests.ensures tells sound (c.a_turn_goes_or_counts_a_fault.ensures.going g.O.Origin.first a b w c.in-Ok.ensures.turns) in
    let left = subst (λ r. LeavesItem (stage_items stage) r a.meta b.meta) c.in-On.is c.in-Ok.ensures.left in
    c.a_turn_of_a_row_is_told.ensures.on run opened a b h s statement next e key head stage c.in-On.then c.requires.may.one small keyed at ends (between (stage_items stage) c.in-On.then a.meta b.meta left)
    (c.a_turn_is_told_by_its_number.ensures.logged g.O.Origin.first a b w tells sound c.in-Ok.ensures.turns next_is rests) c.keep_room.new.txns (c.keep_room.ensures.run stage c.requires.at.1.1)

pub returns-in-Grown-clause-told : goal.returns-in-Grown-clause-told
returns-in-Grown-clause-told g c = λ run opened locks statement tells sound next keyed at.
    let a = c.args.store.now in
    let b = c.write-written.new.store in
    let s = c.args.s in
    let e = c.args.entry in
    let key = c.args.key in
    let head = c.args.head.now in
    let stage = c.args.stage in
    let w = c.in-Ok.written in
    let h : SessionsHeld = record { txns = c.args.txns.now; locks = locks } in
    let small = subst (λ n. n < 2 ^ 64) c.me-x.ensures c.me-x.type_inv in
    let wish = wish_by (number_drawn s h.txns) e key head in
    let asked = same_wish c.me-x.result (number_drawn s h.txns) e (to_z w64 (of_z w64 key)) key c.version-version.result head c.me-x.ensures (to_z-of_z w64 key c.ranges.key) c.version-version.ensures.said in
    let may = c.a_turn_of_a_row_may_be_taken.ensures run opened a b h s statement next e key head stage c.requires.may.one small keyed at in
    let turned = subst (λ (v : Wish). EndsWrite v stage a.now b.now w) asked (c.in-Ok.ensures.steps tells sound (subst (λ (v : Wish). MayTakeTurn v stage a.now) (sym asked) may)) in
    let ends = subst (λ r. EndsWrite wish stage a.now b.now r) c.in-Grown.is turned in
    let moves = subst (λ r. MovesWrite r a b) c.in-Grown.is c.in-Ok.ensures.numbers in
    let counts = c.a_turn_is_told_by_its_number.ensures.grown g.O.Origin.first a b w c.in-Ok.ensures.turns moves.0 (λ same. more_apart a.now.counted b.now.counted moves.1 same) in
    c.a_turn_of_a_row_is_told.ensures.grown run opened a b h s statement next e key head stage c.requires.may.one keyed at ends
    (c.growth_behind_pages_keeps_a_world.ensures run opened a b next.mind next.world.keeps g.O.Origin.first w tells sound counts)

pub returns-in-Done-clause-told : goal.returns-in-Done-clause-told
returns-in-Done-clause-told g c = λ run opened locks statement tells sound next keyed at.
    let a = c.args.store.now in
    let b = c.write-written.new.store in
    let s = c.args.s in
    let e = c.args.entry in
    let key = c.args.key in
    let head = c.args.head.now in
    let stage = c.args.stage in
    let w = c.in-Ok.written in
    let h : SessionsHeld = record { txns = c.args.txns.now; locks = locks } in
    let small = subst (λ n. n < 2 ^ 64) c.me-x.ensures c.me-x.type_inv in
    let wish = wish_by (number_drawn s h.txns) e key head in
    let asked = same_wish c.me-x.result (number_drawn s h.txns) e (to_z w64 (of_z w64 key)) key c.version-version.result head c.me-x.ensures (to_z-of_z w64 key c.ranges.key) c.version-version.ensures.said in
    let may = c.a_turn_of_a_row_may_be_taken.ensures run opened a b h s statement next e key head stage c.requires.may.one small keyed at in
    let turned = subst (λ (v : Wish). EndsWrite v stage a.now b.now w) asked (c.in-Ok.ensures.steps tells sound (subst (λ (v : Wish). MayTakeTurn v stage a.now) (sym asked) may)) in
    let ends = subst (λ r. EndsWrite wish stage a.now b.now r) c.in-Done.is turned in
    let next_is = subst (λ r. MovesWrite r a b) c.in-Done.is c.in-Ok.ensures.numbers in
    let rests = c.rests.ensures tells sound (c.a_turn_goes_or_counts_a_fault.ensures.going g.O.Origin.first a b w c.in-Ok.ensures.turns) in
    c.a_turn_of_a_row_is_told.ensures.done run opened a b h s statement next e key head stage c.requires.may.one small keyed at c.requires.at.0 ends
    (c.a_turn_is_told_by_its_number.ensures.logged g.O.Origin.first a b w tells sound c.in-Ok.ensures.turns next_is rests)

pub returns-in-Full-clause-told : goal.returns-in-Full-clause-told
returns-in-Full-clause-told g c = λ run opened locks statement tells sound next keyed at.
    let a = c.args.store.now in
    let b = c.write-written.new.store in
    let s = c.args.s in
    let e = c.args.entry in
    let key = c.args.key in
    let head = c.args.head.now in
    let stage = c.args.stage in
    let w = c.in-Ok.written in
    let h : SessionsHeld = record { txns = c.args.txns.now; locks = locks } in
    let small = subst (λ n. n < 2 ^ 64) c.me-x.ensures c.me-x.type_inv in
    let wish = wish_by (number_drawn s h.txns) e key head in
    let asked = same_wish c.me-x.result (number_drawn s h.txns) e (to_z w64 (of_z w64 key)) key c.version-version.result head c.me-x.ensures (to_z-of_z w64 key c.ranges.key) c.version-version.ensures.said in
    let may = c.a_turn_of_a_row_may_be_taken.ensures run opened a b h s statement next e key head stage c.requires.may.one small keyed at in
    let turned = subst (λ (v : Wish). EndsWrite v stage a.now b.now w) asked (c.in-Ok.ensures.steps tells sound (subst (λ (v : Wish). MayTakeTurn v stage a.now) (sym asked) may)) in
    let ends = subst (λ r. EndsWrite wish stage a.now b.now r) c.in-Full.is turned in
    let next_is = subst (λ r. MovesWrite r a b) c.in-Full.is c.in-Ok.ensures.numbers in
    let rests = c.rests.ensures tells sound (c.a_turn_goes_or_counts_a_fault.ensures.going g.O.Origin.first a b w c.in-Ok.ensures.turns) in
    c.a_turn_of_a_row_is_told.ensures.full run opened a b h s statement next e key head stage c.requires.may.one keyed at ends
    (c.a_turn_is_told_by_its_number.ensures.read g.O.Origin.first a b w tells sound c.in-Ok.ensures.turns next_is (c.a_write_without_a_record.ensures.full wish stage a.now b.now ends).same rests)

-- ---- errors

pub returns-in-Err-clause-refused : goal.returns-in-Err-clause-refused
returns-in-Err-clause-refused g c = λ run opened locks statement tells sound next keyed at.
    let a = c.args.store.now in
    let b = c.write-written.new.store in
    let s = c.args.s in
    let e = c.args.entry in
    let key = c.args.key in
    let head = c.args.head.now in
    let stage = c.args.stage in
    let h : SessionsHeld = record { txns = c.args.txns.now; locks = locks } in
    let small = subst (λ n. n < 2 ^ 64) c.me-x.ensures c.me-x.type_inv in
    let wish = wish_by (number_drawn s h.txns) e key head in
    let asked = same_wish c.me-x.result (number_drawn s h.txns) e (to_z w64 (of_z w64 key)) key c.version-version.result head c.me-x.ensures (to_z-of_z w64 key c.ranges.key) c.version-version.ensures.said in
    let may = c.a_turn_of_a_row_may_be_taken.ensures run opened a b h s statement next e key head stage c.requires.may.one small keyed at in
    c.in-Err.ensures.refused tells sound (subst (λ (v : Wish). MayTakeTurn v stage a.now) (sym asked) may)

pub returns-in-Err-clause-disk : goal.returns-in-Err-clause-disk
returns-in-Err-clause-disk g c = turned_failed g.O.Origin.first g.D.Disk _ _ c.in-Err.fault c.in-Err.ensures.turns

pub returns-in-On-clause-disk : goal.returns-in-On-clause-disk
returns-in-On-clause-disk g c = turned_done g.O.Origin.first g.D.Disk _ _ c.in-Ok.written _ c.in-Ok.ensures.turns

pub returns-in-Grown-clause-disk : goal.returns-in-Grown-clause-disk
returns-in-Grown-clause-disk g c = turned_done g.O.Origin.first g.D.Disk _ _ c.in-Ok.written _ c.in-Ok.ensures.turns

pub returns-in-Done-clause-disk : goal.returns-in-Done-clause-disk
returns-in-Done-clause-disk g c = turned_done g.O.Origin.first g.D.Disk _ _ c.in-Ok.written _ c.in-Ok.ensures.turns

pub returns-in-Full-clause-disk : goal.returns-in-Full-clause-disk
returns-in-Full-clause-disk g c = turned_done g.O.Origin.first g.D.Disk _ _ c.in-Ok.written _ c.in-Ok.ensures.turns
