use Rattle.ctr_cleaner.proofs.Joined.{part_behind, part_reads, part_unread, room_on}
use Rattle.ctr_cleaner.proofs.going.a_part_reads.Goals as goal

pub returns-clause-behind : goal.returns-clause-behind
returns-clause-behind g c = λ may first u v w x result page part. part_behind first g.D.Disk may x u v w result page (c.a_turn_goes_on.ensures.behind first u v w x result page) part

pub returns-clause-nothing : goal.returns-clause-nothing
returns-clause-nothing g c = λ may first u v x page. part_reads first g.D.Disk may x u v page

pub returns-clause-unread : goal.returns-clause-unread
returns-clause-unread g c = λ may first u v e page. part_unread first g.D.Disk may u v e page

pub returns-clause-room : goal.returns-clause-room
returns-clause-room g c = λ some first u v x page. room_on first g.D.Disk some x u v page (c.room_is_still_there.ensures.behind 0 0 u v)
