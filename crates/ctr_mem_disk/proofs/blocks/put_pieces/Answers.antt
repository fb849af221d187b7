use Rattle.std.proofs.Common.{◌≡◌, ◌+◌, ◌-◌, ℕ, take, drop, ap, arith}
use Rattle.ctr_mem_disk.specs.Blocks.{byte_in}
use Rattle.ctr_mem_disk.proofs.Places.{put_more}
use Rattle.ctr_mem_disk.proofs.blocks.put_pieces.Goals as goal

pub loop-done-preserved : goal.loop-done-preserved
loop-done-preserved c =
    let i = c.loop-done.invariant in
    let done = c.loop-done.done in
    let n = c.piece_at-len.result in
    let w = c.args.with.now in
    let size : (done + n) - done ≡ n = omega arith in
    record {
      within = omega arith;
      put = put_more c.args.at done n w _ (ap (λ (m : ℕ). take m (drop done w)) size) (omega arith) (byte_in c.args.blocks.now) (byte_in c.loop-done.blocks) (byte_in c.put_piece.new.blocks) i.put c.put_piece.ensures.put;
      kept = λ m was. c.put_piece.ensures.kept m (i.kept m was);
    }
