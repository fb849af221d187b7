use Rattle.std.proofs.Common.{ℕ, ◌≤◌, arith}
use Rattle.ctr_actions.specs.Sites.{site_of}
use Rattle.ctr_exec.specs.ctr_control.kept_Turns.{point_now}
use Rattle.ctr_pass.proofs.Outside.{has_nobody, is_outside, unlocked, mark_is_next}
use Rattle.ctr_pass.proofs.sparing.nobody_inside_locks_nothing.Goals as goal

pub returns-clause-has : goal.returns-clause-has
returns-clause-has g c = λ run opened v h w shows none. has_nobody g.D.Disk run opened v h w shows none

pub returns-clause-inside : goal.returns-clause-inside
returns-clause-inside g c = λ run opened v h w shows none. is_outside g.D.Disk run opened v h w shows none

pub returns-clause-locks : goal.returns-clause-locks
returns-clause-locks g c = λ run opened v h w shows none. unlocked g.D.Disk run opened v h w shows none

pub returns-clause-opens : goal.returns-clause-opens
returns-clause-opens g c = λ run opened v h w shows none ended.
    c.where_nobody_is_inside_none_is_open.ensures run (g.D.Disk.moment_of v.disk) (site_of v.now) w shows.world.keeps.walks ended none

pub returns-clause-mark : goal.returns-clause-mark
returns-clause-mark g c = λ run opened v h w shows none opens. mark_is_next g.D.Disk run opened v h w shows
    (λ more. let walks = shows.world.keeps.walks in
    let one = c.waiting_are_answered.ensures run.lines (point_now run w) (point_now run w).moment
    (c.legal_tapes_are_reached.ensures run.lines run.moment run.base run.stuck w.tape walks.legal) (at_most (point_now run w).moment) more in
    (one.0, one.1.me, one.1.there))
    none opens
  where
    at_most : (n : ℕ) → n ≤ n
    at_most n = omega arith
