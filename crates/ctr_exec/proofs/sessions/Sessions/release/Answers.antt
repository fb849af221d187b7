use Rattle.std.proofs.Common.{refl, ◌∙◌, ap}
use Rattle.ctr_model.specs.Reply.{without_name}
use Rattle.ctr_exec.proofs.Ordered.{ordered_released}
use Rattle.ctr_exec.proofs.Released.{released_seats, room_there}
use Rattle.ctr_exec.proofs.sessions.Sessions.release.Goals as goal

pub push_reserved-requires : goal.push_reserved-requires
push_reserved-requires c = room_there c.args.self.now c.requires.seats.0 c.args.name c.requires.seats.1 c.requires.there

pub returns-clause-seats : goal.returns-clause-seats
returns-clause-seats c = λ counted seats.
    let pushed = c.push_reserved.ensures in
    released_seats c.args.self.now _ counted c.args.moment c.args.name c.requires.there (record { same = refl; tape = pushed.items; stuck = c.without.ensures ∙ ap (without_name c.args.name) c.replace-held.ensures.value }) pushed.len pushed.capacity seats

pub returns-clause-order : goal.returns-clause-order
returns-clause-order c = λ start before le is.
    ordered_released c.args.self.now _ c.args.name c.args.moment (record { same = refl; tape = c.push_reserved.ensures.items; stuck = c.without.ensures ∙ ap (without_name c.args.name) c.replace-held.ensures.value })
    start before le is
