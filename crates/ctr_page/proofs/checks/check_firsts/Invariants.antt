use Rattle.std.proofs.Common.{◌≡◌, ◌≤◌, ◌+◌, ◌*◌, length}
use Rattle.ctr_page.specs.Damage.{firsts_check}
use Rattle.ctr_page.proofs.checks.check_firsts.Given as goal

abbrev pub invariant-loop-left : goal.invariant-loop-left
invariant-loop-left l =
    (l.next + 4 * l.left ≤ length l.page)
    × (firsts_check l.count l.counted l.at l.page ≡ firsts_check l.left l.counted l.next l.page)

abbrev pub decreases-loop-left : goal.decreases-loop-left
decreases-loop-left l = l.left
