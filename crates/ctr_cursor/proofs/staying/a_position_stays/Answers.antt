use Rattle.std.proofs.Common.{sym, subst}
use Rattle.ctr_walk.specs.record_effects_States.{pages_in}
use Rattle.ctr_actions.specs.Sites.{site_of}
use Rattle.ctr_cursor.specs.Standing.{IsPosition}
use Rattle.ctr_cursor.proofs.Stays.{page_stays, room_stays, position_stays, same_behind, still_position}
use Rattle.ctr_cursor.proofs.staying.a_position_stays.Goals as goal

pub returns-clause-pages : goal.returns-clause-pages
returns-clause-pages c = λ x p a chain s bounds few sound owed takes in_. page_stays x p a chain s bounds few sound owed takes in_

pub returns-clause-rooms : goal.returns-clause-rooms
returns-clause-rooms c = λ x p a chain s bounds sound owed in_. room_stays x p a chain s bounds sound owed in_

pub returns-clause-positions : goal.returns-clause-positions
returns-clause-positions c = λ x y a s bounds few sound owed takes is. position_stays x y a s bounds few sound owed takes is

pub returns-clause-done : goal.returns-clause-done
returns-clause-done c = λ x y a s t does few sound takes is.
    subst (IsPosition y) (sym does.leaves) (position_stays x y a (site_of s) (c.pages_are_in_bounds.ensures (pages_in s)) few sound does.owed takes is)

pub returns-clause-grown : goal.returns-clause-grown
returns-clause-grown c = λ y s more. (still_position s more y, same_behind s more y)
