use Rattle.std.proofs.Common.{◌≡◌, Err, refl, sym, ◌∙◌, subst}
use Rattle.std.specs.Prelude.{IfOk, IfErr}
use Rattle.ctr_disk.specs.declared.fault.StoreFault.TheVariants.{Fault}
use Rattle.ctr_meta.specs.Kept.{TablesKept}
use Rattle.ctr_base.specs.redo_States.{State}
use Rattle.ctr_page_turns.specs.record_effects_States.{area_in}
use Rattle.ctr_page_turns.specs.record_effects_Standing.{IsDatabaseState}
use Rattle.ctr_page_turns.specs.walk_Damage.{damage_told}
use Rattle.ctr_page_turns.specs.walk_Tables.{first_of_chain}
use Rattle.ctr_extend.specs.declared.ways.OnWay.TheVariants.{Taken, Made}
use Rattle.ctr_extend.specs.declared.ways.Extended.TheVariants.{On}
use Rattle.ctr_extend.specs.Ways.{IsOnWay}
use Rattle.ctr_extend.specs.Steps.{MayExtend, MakesEmpty, PutsInFront, LeavesRoom}
use Rattle.ctr_extend.proofs.Steps.{first_undamaged, made_again, moves_behind, put_in_front, taken_still}
use Rattle.ctr_extend.proofs.turn.put_in.Goals as goal

pub returns-then-first-next-clause-turns : goal.returns-then-first-next-clause-turns
returns-then-first-next-clause-turns g c =
    c.a_turn_goes_on.ensures.behind g.O.Origin.first c.args.store.now c.first_page.new.store c.make.new.store c.in-Ok.first c.make.result c.in-Ok.ensures.leaves c.make.ensures.turns

pub returns-clause-turns : goal.returns-clause-turns
returns-clause-turns g c =
    c.a_turn_goes_on.ensures.behind g.O.Origin.first c.args.store.now c.first_page.new.store c.link_in.new.store c.in-Ok.first c.link_in.result c.in-Ok.ensures.leaves c.link_in.ensures.turns

pub returns-in-Err-clause-turns : goal.returns-in-Err-clause-turns
returns-in-Err-clause-turns g c =
    c.a_turn_goes_on.ensures.unread g.O.Origin.first c.args.store.now c.first_page.new.store c.in-Err.fault (Err c.in-Err.fault) (Err c.in-Err.fault) c.in-Err.ensures.leaves refl refl

pub returns-then-first-next-clause-left : goal.returns-then-first-next-clause-left
returns-then-first-next-clause-left g c = subst (λ (k : TablesKept). IfOk c.make.result (λ e. LeavesRoom 0 e k c.make.new.store.meta)) c.in-Ok.ensures.leaves.keeps.meta c.make.ensures.left

pub returns-then-first-next-clause-numbers : goal.returns-then-first-next-clause-numbers
returns-then-first-next-clause-numbers g c = moves_behind c.args.store.now c.first_page.new.store c.make.new.store c.make.result c.in-Ok.ensures.leaves.keeps c.make.ensures.numbers

pub returns-clause-numbers : goal.returns-clause-numbers
returns-clause-numbers g c = moves_behind c.args.store.now c.first_page.new.store c.link_in.new.store c.link_in.result c.in-Ok.ensures.leaves.keeps c.link_in.ensures.numbers

pub returns-then-first-next-clause-steps : goal.returns-then-first-next-clause-steps
returns-then-first-next-clause-steps g c = λ told sound may.
    let x = c.args.x in
    let chain = c.args.chain in
    let page = c.args.page in
    let n = c.number_of-first.result in
    let same = (c.in-Ok.ensures.leaves.logs told sound).now in
    let steps = subst (λ (s : State). IsDatabaseState s → IsOnWay x chain (Taken page) s → n ≡ first_of_chain (area_in s) chain
    → IfOk c.make.result (λ e. (e ≡ On (Made page n)) × MakesEmpty x chain page n s c.make.new.store.now)) same (c.make.ensures.steps told sound) in
    made_again x chain page n c.args.store.now.now c.make.new.store.now c.args.next c.make.result (λ is. c.if-first-next.true (sym is))
    (steps may.sound (taken_still x chain page c.args.next c.args.store.now.now may.on_way) (c.number_of-first.ensures (first_of_chain (area_in c.args.store.now.now) chain) (c.in-Ok.ensures.ends told sound).1))

pub returns-clause-steps : goal.returns-clause-steps
returns-clause-steps g c = λ told sound may.
    let x = c.args.x in
    let chain = c.args.chain in
    let page = c.args.page in
    let n = c.args.next in
    let same = (c.in-Ok.ensures.leaves.logs told sound).now in
    let steps = subst (λ (s : State). MayExtend x chain (Made page n) s → n ≡ first_of_chain (area_in s) chain
    → IfOk c.link_in.result (λ e. PutsInFront x chain page n s c.link_in.new.store.now)) same (c.link_in.ensures.steps n told sound) in
    put_in_front x chain page n c.args.store.now.now c.link_in.new.store.now c.link_in.result (λ e. LeavesRoom 0 e c.first_page.new.store.meta c.link_in.new.store.meta) c.link_in.ensures.is
    (steps may (sym c.if-first-next.false ∙ c.number_of-first.ensures (first_of_chain (area_in c.args.store.now.now) chain) (c.in-Ok.ensures.ends told sound).1))

pub returns-in-Err-clause-refused : goal.returns-in-Err-clause-refused
returns-in-Err-clause-refused g c = λ told sound may.
    first_undamaged (damage_told g.D.Disk c.first_page.new.store) c.args.store.now.now may.sound c.args.chain c.requires.there (Err c.in-Err.fault) (c.in-Err.ensures.ends told sound)

pub returns-then-first-next-clause-refused : goal.returns-then-first-next-clause-refused
returns-then-first-next-clause-refused g c = λ told sound may.
    let x = c.args.x in
    let chain = c.args.chain in
    let same = (c.in-Ok.ensures.leaves.logs told sound).now in
    subst (λ (s : State). IsDatabaseState s → IsOnWay x chain (Taken c.args.page) s → IfErr c.make.result (λ e. e ≡ Fault)) same (c.make.ensures.refused told sound) may.sound
    (taken_still x chain c.args.page c.args.next c.args.store.now.now may.on_way)

pub returns-clause-refused : goal.returns-clause-refused
returns-clause-refused g c = λ told sound may.
    let x = c.args.x in
    let chain = c.args.chain in
    let n = c.args.next in
    let same = (c.in-Ok.ensures.leaves.logs told sound).now in
    subst (λ (s : State). MayExtend x chain (Made c.args.page n) s → n ≡ first_of_chain (area_in s) chain → IfErr c.link_in.result (λ e. e ≡ Fault)) same (c.link_in.ensures.refused n told sound) may
    (sym c.if-first-next.false ∙ c.number_of-first.ensures (first_of_chain (area_in c.args.store.now.now) chain) (c.in-Ok.ensures.ends told sound).1)
