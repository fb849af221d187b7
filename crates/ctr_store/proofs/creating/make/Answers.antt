use Rattle.std.proofs.Common.{◌⊎◌, ◌∙◌, inl, inr, sym}
use Rattle.ctr_disk.specs.Image.{Image}
use Rattle.ctr_disk.proofs.Moments.{weaker, joined, one_call, settled_by, still_only}
use Rattle.ctr_store.specs.Creating.{IsNoneOrNew}
use Rattle.ctr_store.proofs.creating.make.Goals as goal

pub returns-clause-any_moment : goal.returns-clause-any_moment
returns-clause-any_moment g c told none =
    let d = g.D.Disk in
    let zero = c.args.disk.now in
    let one = c.sync.new.self in
    let two = c.is_open.new.disk in
    let new = c.lay.new.disk in
    let P : Image → Type 0 = λ i. d.images zero i ⊎ IsNoneOrNew i in
    let synced = one_call d zero one P (d.images one) (λ i left. inl (g.met.D.Disk.only_now zero i left)) c.sync.ensures.time (λ i is. inl (c.sync.ensures.crash i is)) in
    let read = weaker d one two (d.images one) P c.is_open.ensures.quiet.any_moment (λ i is. inl (c.sync.ensures.crash i is)) in
    let settled = settled_by d two told (still_only d one two c.is_open.ensures.quiet (λ i is. c.in_ok-sync.ensures.durable i is ∙ sym c.sync.ensures.same)) in
    let laid = weaker d two new IsNoneOrNew P (c.lay.ensures.any_moment settled) (λ i is. inr is) in
    joined d zero two new P (joined d zero one two P synced read) laid
