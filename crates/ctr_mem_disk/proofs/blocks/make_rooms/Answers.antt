use Rattle.std.proofs.Common.{◌≡◌, ◌+◌, ◌-◌, ◌∙◌, ℕ, take, drop, ap, arith}
use Rattle.ctr_mem_disk.proofs.Places.{room_more}
use Rattle.ctr_mem_disk.proofs.blocks.make_rooms.Goals as goal

pub loop-done-preserved : goal.loop-done-preserved
loop-done-preserved c =
    let i = c.loop-done.invariant in
    let done = c.loop-done.done in
    let n = c.piece_at-len.result in
    let w = c.args.with.now in
    let size : (done + n) - done ≡ n = omega arith in
    record {
      within = omega arith;
      same = λ j. c.in_ok-make_room.ensures.same j ∙ i.same j;
      room = room_more c.args.at done n w _ (ap (λ (m : ℕ). take m (drop done w)) size) (omega arith) c.loop-done.blocks c.make_room.new.blocks i.room c.in_ok-make_room.ensures.kept c.in_ok-make_room.ensures.room;
    }
