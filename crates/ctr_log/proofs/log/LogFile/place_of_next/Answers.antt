use Rattle.std.proofs.Common.{◌≡◌, ◌∙◌, ◌+◌, ℕ, length, take, drop, ap, arith, length-drop}
use Rattle.ctr_log.specs.Logs.{frames, batches, next_place}
use Rattle.ctr_log.proofs.NextPlace.{stands_next}
use Rattle.ctr_log.proofs.log.LogFile.place_of_next.Goals as goal

pub returns-clause-place : goal.returns-clause-place
returns-clause-place c =
    let a = c.self.inside in
    let held = length-drop 20 a.buffer.items in
    let are = ap length c.self.invariant.frames_are in
    let head = c.self.invariant.head in
    let long = a.buffer.ok.0 in
    let shown = ap next_place c.self.view_is in
    omega arith

pub returns-clause-stands : goal.returns-clause-stands
returns-clause-stands c first bs image r bytes goes has =
    let at : c.self.inside.place + 9 + c.len.result ≡ length (batches first bs) + 29 + length (frames c.args.self.now.buffered) = omega (arith, returns-clause-place c, goes.place) in
    ap (λ (n : ℕ). take (length r) (drop n bytes)) at ∙ stands_next first bs c.args.self.now.buffered r bytes has
