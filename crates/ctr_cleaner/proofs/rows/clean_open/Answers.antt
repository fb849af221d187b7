use Rattle.std.proofs.Common.{refl, sym, ◌∙◌, subst}
use Rattle.std.specs.Prelude.{IfOk}
use Rattle.ctr_emptying.specs.clean_Steps.{HasNoRevert}
use Rattle.ctr_emptying.specs.cursor_Position.TheVariants.{Slot}
use Rattle.ctr_cleaner.specs.Finding.{HasNothingInSlot}
use Rattle.ctr_cleaner.specs.Turning.{heeding}
use Rattle.ctr_cleaner.specs.Parts.{DidAt, done_step}
use Rattle.ctr_cleaner.proofs.Joined.{part_told}
use Rattle.ctr_cleaner.proofs.Found.{done_so, reverts_slot, nothing_dead}
use Rattle.ctr_cleaner.proofs.rows.clean_open.Goals as goal

pub returns-then-live-clause-cleans : goal.returns-then-live-clause-cleans
returns-then-live-clause-cleans g c = λ b spared may told sound database slot live. c.clean_live.ensures.cleans b spared may told sound database slot (live ∙ c.if-live.true)

pub returns-else-live-clause-tries : goal.returns-else-live-clause-tries
returns-else-live-clause-tries g c =
    let first = g.O.Origin.first in
    let old = c.args.store.now in
    let new = c.revert_at.new.store in
    let does = c.revert_at.ensures in
    part_told first g.D.Disk _ old new (done_step c.revert_at.result) c.stepped.result c.stepped.result c.stepped.ensures refl (c.a_step_is_a_part.ensures.step first old new c.revert_at.result does.turns does.numbers does.left does.counted)

pub returns-else-live-clause-cleans : goal.returns-else-live-clause-cleans
returns-else-live-clause-cleans g c = λ b spared may told sound database slot live.
    let s = c.args.store.now.now in
    let new = c.revert_at.new.store.now in
    let low = c.args.low in
    let locks = c.args.locks.now in
    let e = c.args.entry in
    let at = c.args.place in
    let h = heeding low locks spared may in
    let x = Slot e b at in
    subst (λ r. IfOk r (DidAt h x (HasNothingInSlot low e at s) s new)) (sym c.stepped.ensures)
    (done_so h x (HasNoRevert locks e at s) (HasNothingInSlot low e at s) s new (λ none. nothing_dead low locks e at s (live ∙ c.if-live.false) slot.unlocked.0 none) (done_step c.revert_at.result)
    (reverts_slot low locks spared may e b at s new slot.unlocked c.revert_at.result (c.revert_at.ensures.cleans low told sound database slot.here)))
