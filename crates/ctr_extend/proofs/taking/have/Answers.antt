use Rattle.std.proofs.Common.{◌≡◌, Err, refl, subst}
use Rattle.std.specs.Prelude.{IfOk, IfErr}
use Rattle.ctr_disk.specs.declared.fault.StoreFault.TheVariants.{Fault}
use Rattle.ctr_meta.specs.Kept.{TablesKept}
use Rattle.ctr_base.specs.redo_States.{State}
use Rattle.ctr_page_turns.specs.record_effects_States.{area_in}
use Rattle.ctr_undamaged.specs.alloc_Free.{IsNextFree}
use Rattle.ctr_undamaged.specs.alloc_NextFree.TheVariants as next
use Rattle.ctr_page_turns.specs.Turns.{Reads}
use Rattle.ctr_extend.specs.declared.ways.OnWay.TheVariants.{Wanted}
use Rattle.ctr_extend.specs.declared.ways.Extended.TheVariants.{Full}
use Rattle.ctr_extend.specs.Steps.{MayExtend, ExtendsBy, LeavesRoom}
use Rattle.ctr_extend.proofs.Steps.{free_so, moves_behind}
use Rattle.ctr_extend.proofs.taking.have.Goals as goal

pub returns-in-Page-clause-turns : goal.returns-in-Page-clause-turns
returns-in-Page-clause-turns g c =
    c.a_turn_goes_on.ensures.behind g.O.Origin.first c.args.store.now c.next_free.new.store c.take.new.store c.in-Ok.next c.take.result c.in-Ok.ensures.leaves c.take.ensures.turns

pub returns-in-Grow-clause-turns : goal.returns-in-Grow-clause-turns
returns-in-Grow-clause-turns g c = c.grow.ensures.turns c.args.store.now c.in-Ok.next c.in-Ok.ensures.leaves

pub returns-in-Full-clause-turns : goal.returns-in-Full-clause-turns
returns-in-Full-clause-turns g c =
    c.a_turn_goes_on.ensures.answered g.O.Origin.first c.args.store.now c.next_free.new.store c.in-Ok.next Full (Reads c.in-Ok.ensures.leaves)

pub returns-in-Err-clause-turns : goal.returns-in-Err-clause-turns
returns-in-Err-clause-turns g c =
    c.a_turn_goes_on.ensures.lost g.O.Origin.first c.args.store.now c.next_free.new.store c.in-Err.fault (Err c.in-Err.fault) (Err c.in-Err.fault) c.in-Err.ensures.leaves refl refl

pub returns-in-Page-clause-left : goal.returns-in-Page-clause-left
returns-in-Page-clause-left g c = subst (λ (k : TablesKept). IfOk c.take.result (λ e. LeavesRoom 1 e k c.take.new.store.meta)) c.in-Ok.ensures.leaves.keeps.meta c.take.ensures.left

pub returns-in-Grow-clause-left : goal.returns-in-Grow-clause-left
returns-in-Grow-clause-left g c = subst (λ (k : TablesKept). IfOk c.grow.result (λ e. LeavesRoom 1 e k c.grow.new.store.meta)) c.in-Ok.ensures.leaves.keeps.meta c.grow.ensures.left

pub returns-in-Full-clause-left : goal.returns-in-Full-clause-left
returns-in-Full-clause-left g c = c.in-Ok.ensures.leaves.keeps.meta

pub returns-in-Page-clause-numbers : goal.returns-in-Page-clause-numbers
returns-in-Page-clause-numbers g c = moves_behind c.args.store.now c.next_free.new.store c.take.new.store c.take.result c.in-Ok.ensures.leaves.keeps c.take.ensures.numbers

pub returns-in-Grow-clause-numbers : goal.returns-in-Grow-clause-numbers
returns-in-Grow-clause-numbers g c = moves_behind c.args.store.now c.next_free.new.store c.grow.new.store c.grow.result c.in-Ok.ensures.leaves.keeps c.grow.ensures.numbers

pub returns-in-Full-clause-numbers : goal.returns-in-Full-clause-numbers
returns-in-Full-clause-numbers g c = c.in-Ok.ensures.leaves.keeps.next

pub returns-in-Page-clause-steps : goal.returns-in-Page-clause-steps
returns-in-Page-clause-steps g c = λ chain told sound may.
    let same = (c.in-Ok.ensures.leaves.logs told sound).now in
    subst (λ (s : State). MayExtend c.args.x chain Wanted s → IsNextFree s.counted (area_in s).taken (next.Page c.in-Page.p) → IfOk c.take.result (ExtendsBy c.args.x chain Wanted s c.take.new.store.now)) same
    (c.take.ensures.steps chain told sound) may (free_so c.args.store.now.now.counted (area_in c.args.store.now.now).taken c.in-Ok.next (next.Page c.in-Page.p) c.in-Page.is (c.in-Ok.ensures.next told sound))

pub returns-in-Grow-clause-steps : goal.returns-in-Grow-clause-steps
returns-in-Grow-clause-steps g c = λ chain told sound may.
    let same = (c.in-Ok.ensures.leaves.logs told sound).now in
    subst (λ (s : State). MayExtend c.args.x chain Wanted s → IsNextFree s.counted (area_in s).taken next.Grow → IfOk c.grow.result (ExtendsBy c.args.x chain Wanted s c.grow.new.store.now)) same
    (c.grow.ensures.steps c.args.x chain told sound) may (free_so c.args.store.now.now.counted (area_in c.args.store.now.now).taken c.in-Ok.next next.Grow c.in-Grow.is (c.in-Ok.ensures.next told sound))

pub returns-in-Full-clause-steps : goal.returns-in-Full-clause-steps
returns-in-Full-clause-steps g c = λ chain told sound may.
    let free = free_so c.args.store.now.now.counted (area_in c.args.store.now.now).taken c.in-Ok.next next.Full c.in-Full.is (c.in-Ok.ensures.next told sound) in
    record { none = free.0; most = free.1; same = (c.in-Ok.ensures.leaves.logs told sound).now }

pub returns-in-Err-clause-refused : goal.returns-in-Err-clause-refused
returns-in-Err-clause-refused g c = λ chain told sound may. cc (c.in-Err.ensures.leaves.refused told sound)

pub returns-in-Page-clause-refused : goal.returns-in-Page-clause-refused
returns-in-Page-clause-refused g c = λ chain told sound may.
    let same = (c.in-Ok.ensures.leaves.logs told sound).now in
    subst (λ (s : State). MayExtend c.args.x chain Wanted s → IsNextFree s.counted (area_in s).taken (next.Page c.in-Page.p) → IfErr c.take.result (λ e. e ≡ Fault)) same (c.take.ensures.refused chain told sound) may
    (free_so c.args.store.now.now.counted (area_in c.args.store.now.now).taken c.in-Ok.next (next.Page c.in-Page.p) c.in-Page.is (c.in-Ok.ensures.next told sound))
