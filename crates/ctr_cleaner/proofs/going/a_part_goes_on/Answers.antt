use Rattle.std.proofs.Common.{None}
use Rattle.ctr_cleaner.specs.Parts.{Done}
use Rattle.ctr_cleaner.proofs.Joined.{nothing_read, part_behind, part_may, part_rests, room_on}
use Rattle.ctr_cleaner.proofs.going.a_part_goes_on.Goals as goal

pub returns-clause-behind : goal.returns-clause-behind
returns-clause-behind g c = λ may first u v w result one two.
    let page = nothing_read first g.D.Disk may u v one in
    part_behind first g.D.Disk {S = Done} may None u v w result page (c.a_turn_goes_on.ensures.behind first u v w None result page) two

pub returns-clause-may : goal.returns-clause-may
returns-clause-may g c = λ may first u v result. part_may first g.D.Disk may u v result

pub returns-clause-read : goal.returns-clause-read
returns-clause-read g c = λ may first u v. nothing_read first g.D.Disk may u v

pub returns-clause-starts : goal.returns-clause-starts
returns-clause-starts g c = λ may first u rests going. part_rests first g.D.Disk may u rests going

pub returns-clause-one : goal.returns-clause-one
returns-clause-one g c = λ may opens items first u v part.
    let page = nothing_read first g.D.Disk may u v part in
    c.room_is_still_there.ensures.behind opens items u v page.keeps page.going

pub returns-clause-room : goal.returns-clause-room
returns-clause-room g c = λ may some first u v part. room_on first g.D.Disk {S = Done} some None u v (nothing_read first g.D.Disk may u v part) (c.room_is_still_there.ensures.behind 0 0 u v)
