use Rattle.std.proofs.Common.{◌≡◌, Err, refl, subst}
use Rattle.std.specs.Prelude.{IfOk, IfErr}
use Rattle.ctr_disk.specs.declared.fault.StoreFault.TheVariants.{Fault}
use Rattle.ctr_meta.specs.Kept.{TablesKept}
use Rattle.ctr_base.specs.redo_States.{State}
use Rattle.ctr_page_turns.specs.record_effects_States.{area_in}
use Rattle.ctr_page_turns.specs.record_effects_Standing.{IsDatabaseState}
use Rattle.ctr_page_turns.specs.walk_Damage.{damage_told}
use Rattle.ctr_page_turns.specs.walk_Tables.{first_of_chain}
use Rattle.ctr_extend.specs.declared.ways.OnWay.TheVariants.{Taken, Made}
use Rattle.ctr_extend.specs.declared.ways.Extended.TheVariants.{On}
use Rattle.ctr_extend.specs.Ways.{IsOnWay}
use Rattle.ctr_extend.specs.Steps.{MakesEmpty, LeavesRoom}
use Rattle.ctr_extend.proofs.Steps.{first_undamaged, made_first, moves_behind}
use Rattle.ctr_extend.proofs.turn.make_first.Goals as goal

pub returns-in-Ok-clause-turns : goal.returns-in-Ok-clause-turns
returns-in-Ok-clause-turns g c =
    c.a_turn_goes_on.ensures.behind g.O.Origin.first c.args.store.now c.first_page.new.store c.make.new.store c.in-Ok.first c.make.result c.in-Ok.ensures.leaves c.make.ensures.turns

pub returns-in-Err-clause-turns : goal.returns-in-Err-clause-turns
returns-in-Err-clause-turns g c =
    c.a_turn_goes_on.ensures.unread g.O.Origin.first c.args.store.now c.first_page.new.store c.in-Err.fault (Err c.in-Err.fault) (Err c.in-Err.fault) c.in-Err.ensures.leaves refl refl

pub returns-in-Ok-clause-left : goal.returns-in-Ok-clause-left
returns-in-Ok-clause-left g c = subst (λ (k : TablesKept). IfOk c.make.result (λ e. LeavesRoom 0 e k c.make.new.store.meta)) c.in-Ok.ensures.leaves.keeps.meta c.make.ensures.left

pub returns-in-Ok-clause-numbers : goal.returns-in-Ok-clause-numbers
returns-in-Ok-clause-numbers g c = moves_behind c.args.store.now c.first_page.new.store c.make.new.store c.make.result c.in-Ok.ensures.leaves.keeps c.make.ensures.numbers

pub returns-in-Ok-clause-steps : goal.returns-in-Ok-clause-steps
returns-in-Ok-clause-steps g c = λ told sound may.
    let x = c.args.x in
    let chain = c.args.chain in
    let page = c.args.page in
    let n = c.number_of.result in
    let same = (c.in-Ok.ensures.leaves.logs told sound).now in
    let steps = subst (λ (s : State). IsDatabaseState s → IsOnWay x chain (Taken page) s → n ≡ first_of_chain (area_in s) chain
    → IfOk c.make.result (λ e. (e ≡ On (Made page n)) × MakesEmpty x chain page n s c.make.new.store.now)) same (c.make.ensures.steps told sound) in
    made_first x chain page n c.args.store.now.now c.make.new.store.now c.make.result (steps may.sound may.on_way (c.number_of.ensures (first_of_chain (area_in c.args.store.now.now) chain) (c.in-Ok.ensures.ends told sound).1))

pub returns-in-Err-clause-refused : goal.returns-in-Err-clause-refused
returns-in-Err-clause-refused g c = λ told sound may.
    first_undamaged (damage_told g.D.Disk c.first_page.new.store) c.args.store.now.now may.sound c.args.chain c.requires.there (Err c.in-Err.fault) (c.in-Err.ensures.ends told sound)

pub returns-in-Ok-clause-refused : goal.returns-in-Ok-clause-refused
returns-in-Ok-clause-refused g c = λ told sound may.
    let x = c.args.x in
    let chain = c.args.chain in
    let same = (c.in-Ok.ensures.leaves.logs told sound).now in
    subst (λ (s : State). IsDatabaseState s → IsOnWay x chain (Taken c.args.page) s → IfErr c.make.result (λ e. e ≡ Fault)) same (c.make.ensures.refused told sound) may.sound may.on_way
