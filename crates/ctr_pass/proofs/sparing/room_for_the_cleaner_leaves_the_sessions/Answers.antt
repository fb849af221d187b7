use Rattle.std.proofs.Common.{sym, ◌∙◌}
use Rattle.ctr_pass.proofs.Rooms.{shown_so, seated_so, ordered_so, next_behind, one_there, room_behind}
use Rattle.ctr_pass.proofs.sparing.room_for_the_cleaner_leaves_the_sessions.Goals as goal

pub returns-clause-shows : goal.returns-clause-shows
returns-clause-shows g c = λ run opened v h w item shows. shown_so g.D.Disk run opened v h w item shows

pub returns-clause-seats : goal.returns-clause-seats
returns-clause-seats g c = λ h counted item seats. seated_so h counted item seats

pub returns-clause-order : goal.returns-clause-order
returns-clause-order g c = λ start now h item order. ordered_so start now h item order

pub returns-clause-stands : goal.returns-clause-stands
returns-clause-stands g c = λ txns a b may did stand left is. record {
  next = stand.next ∙ sym (next_behind did a.meta b.meta left.room);
  items = room_behind did txns may.unlink b.now.counted a.meta b.meta left.room left.within is stand.items;
}

pub returns-clause-asks : goal.returns-clause-asks
returns-clause-asks g c = λ txns v stand one. record { one = one; item = λ has. one_there txns v.meta stand.items has }
