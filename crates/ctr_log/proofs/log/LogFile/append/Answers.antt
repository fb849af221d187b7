use Rattle.std.proofs.Common.{◌≡◌, ◌∙◌, ◌+◌, ◌∷◌, [], ◌++◌, ◌-◌, ◌^◌, length, drop, vec_len, vec_capacity, ap, arith}
use Rattle.ctr_log.specs.Logs.{unframed}
use Rattle.ctr_log.proofs.LogLemmas.{length-unframed, count_small, more_frames, more_records}
use Rattle.ctr_log.proofs.log.LogFile.append.Goals as goal

pub overflow_add-self : goal.overflow_add-self
overflow_add-self c =
    let a = c.self.inside in
    omega (arith, count_small a.count a.buffer.items c.self.invariant.frames_are, a.buffer.ok.0, c.self.invariant.short)

pub returns-clause-number : goal.returns-clause-number
returns-clause-number c =
    let e = ap (λ v. length v.buffered) c.self.view_is in
    let f = ap (λ v. v.first) c.self.view_is in
    let n = length-unframed c.self.inside.count (drop 20 c.self.inside.buffer.items) in
    omega arith

pub invariant_of-self : goal.invariant_of-self
invariant_of-self c =
    let old = c.self.inside.buffer in
    let new = c.put_frame.new.buffer in
    let room : vec_capacity old - vec_len old - 1 - (vec_capacity old - 2 ^ 34) ≡ c.args.self.now.room = ap (λ v. v.room) c.self.view_is in
    let first : c.self.inside.first ≡ c.args.self.now.first = ap (λ v. v.first) c.self.view_is in
    let count : length (unframed c.self.inside.count (drop 20 old.items)) ≡ length c.args.self.now.buffered = ap (λ v. length v.buffered) c.self.view_is in
    let n = length-unframed c.self.inside.count (drop 20 old.items) in
    let old_len = old.ok.0 in
    let new_len = new.ok.0 in
    let small = new.small in
    let before = c.self.invariant in
    record {
      head = omega arith;
      spare = omega arith;
      short = omega arith;
      frames_are = more_frames c.self.inside.count old.items new.items c.args.bytes.now (omega arith) c.put_frame.ensures.items c.self.invariant.frames_are (omega arith);
      place = c.self.invariant.place;
      next = omega arith;
    }

pub returns-clause-added : goal.returns-clause-added
returns-clause-added c =
    let old = c.self.inside.buffer in
    let new = c.put_frame.new.buffer in
    let view = c.self.view_is in
    let old_len = old.ok.0 in
    let new_len = new.ok.0 in
    let small = new.small in
    let before = c.self.invariant in
    let more : unframed (c.self.inside.count + 1) (drop 20 new.items) ≡ c.args.self.now.buffered ++ c.args.bytes.now ∷ [] =
    more_records c.self.inside.count old.items new.items c.args.bytes.now (omega arith) c.put_frame.ensures.items c.self.invariant.frames_are (omega arith)
    ∙ ap (λ v. v.buffered ++ c.args.bytes.now ∷ []) view in
    (λ i. record { file = (ap (λ v. v.file) view) i; older = (ap (λ v. v.older) view) i; start = (ap (λ v. v.start) view) i; place = (ap (λ v. v.place) view) i; first = (ap (λ v. v.first) view) i; buffered = more i; room = vec_capacity new - vec_len new - 1 - (vec_capacity new - 2 ^ 34) })
