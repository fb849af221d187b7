use Rattle.std.proofs.Common.{refl}
use Rattle.ctr_looks.specs.ctr_wishes.declared.making.Prepared.TheVariants.{Lays}
use Rattle.ctr_writing.proofs.Rowing.{may_take}
use Rattle.ctr_writing.proofs.laws.a_turn_of_a_row_may_be_taken.Goals as goal

pub returns : goal.returns
returns g c = λ run opened a b h s statement next e key head stage one small written at.
    may_take g.D.Disk run opened a b h s statement next one c.the_run_is_of_the_sessions.ensures.found e (Lays head) stage at c.a_session_may_count_on_what_holds.ensures head refl small c.a_turn_of_a_write_is_kept.ensures.may key written
