use Rattle.std.proofs.Common.{◌-◌, ◌*◌, ◌∙◌, ap, arith}
use Rattle.ctr_page.specs.Places.{room_for}
use Rattle.ctr_chain.proofs.Most.{some_entries}
use Rattle.ctr_chain.proofs.seeking.most_entries.Goals as goal

pub returns-clause-some : goal.returns-clause-some
returns-clause-some c =
    let small = c.kinds_width.ensures.small in
    let few = c.kinds.ensures.few in
    some_entries c.args.counted c.kinds_width.result (c.saturating_sub.result * c.room_for-room.result) c.requires.counted.0 (omega (arith, small, few))
    (ap (λ n. n * c.room_for-room.result) c.saturating_sub.ensures ∙ ap (λ n. (c.args.counted - 3) * n) (c.room_for-room.ensures ∙ ap room_for c.kept_size.ensures.value))
