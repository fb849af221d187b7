use Rattle.std.proofs.Common.{◌≡◌, Err, refl, subst}
use Rattle.std.specs.Prelude.{IfOk, IfErr}
use Rattle.ctr_disk.specs.declared.fault.StoreFault.TheVariants.{Fault}
use Rattle.ctr_extend.specs.pvs_Along.{EndsVersions}
use Rattle.ctr_extend.specs.record_effects_States.{pages_in}
use Rattle.ctr_extend.specs.walk_Damage.{damage_told}
use Rattle.ctr_meta.specs.Kept.{TablesKept}
use Rattle.ctr_page.specs.declared.checks.Chain.TheVariants.{Versions}
use Rattle.ctr_redo.specs.States.{State}
use Rattle.ctr_extend.proofs.walk_Joins.{answers_ok}
use Rattle.ctr_extend.specs.declared.ways.OnWay.TheVariants.{Wanted}
use Rattle.ctr_extend.specs.Steps.{MayExtend}
use Rattle.ctr_write.specs.declared.stages.Stage.TheVariants.{Kept}
use Rattle.ctr_write.specs.declared.stages.Written.TheVariants.{On}
use Rattle.ctr_write.specs.Stages.{IsCountedWrite, LeavesItem}
use Rattle.ctr_write.specs.Extending.{ExtendsFor}
use Rattle.ctr_write.specs.Keeping.{IsCopyFor, MayKeepAt, off, KeepsOff}
use Rattle.ctr_write.proofs.Extended.{moves_behind}
use Rattle.ctr_write.proofs.Ending.{so_far, left_so, wants_versions, keeps_first, free_at}
use Rattle.ctr_write.proofs.Refusing.{by_disk}
use Rattle.ctr_write.proofs.rewriting.keep_first.Goals as goal

pub returns-in-Err-clause-turns : goal.returns-in-Err-clause-turns
returns-in-Err-clause-turns g c = c.a_turn_goes_on.ensures.unread g.O.Origin.first c.args.store.now c.find_free_entry.new.store c.in-Err.fault (Err c.in-Err.fault) (Err c.in-Err.fault) c.in-Err.ensures.leaves refl refl

pub returns-in-None-clause-turns : goal.returns-in-None-clause-turns
returns-in-None-clause-turns g c = c.a_turn_goes_on.ensures.behind g.O.Origin.first c.args.store.now c.find_free_entry.new.store c.more.new.store c.in-Ok.free c.more.result c.in-Ok.ensures.leaves c.more.ensures.turns

pub returns-in-Some-clause-turns : goal.returns-in-Some-clause-turns
returns-in-Some-clause-turns g c = c.keep_off.ensures.turns c.args.store.now (answers_ok g.O.Origin.first g.D.Disk c.in-Ok.free tt c.args.store.now c.find_free_entry.new.store c.in-Ok.ensures.leaves)

pub returns-in-Some-clause-inside : goal.returns-in-Some-clause-inside
returns-in-Some-clause-inside g c = so_far (On (Kept c.in-Some.place)) (λ w. LeavesItem 1 w c.find_free_entry.new.store.meta c.keep_off.new.store.meta) (λ w. IsCountedWrite w c.keep_off.new.store.now.counted) c.keep_off.result tt c.keep_off.ensures.is

pub returns-in-None-clause-left : goal.returns-in-None-clause-left
returns-in-None-clause-left g c = subst (λ (k : TablesKept). IfOk c.more.result (λ w. LeavesItem 1 w k c.more.new.store.meta)) c.in-Ok.ensures.leaves.keeps.meta c.more.ensures.left

pub returns-in-Some-clause-left : goal.returns-in-Some-clause-left
returns-in-Some-clause-left g c = left_so 1 (On (Kept c.in-Some.place)) c.args.store.now.meta c.find_free_entry.new.store.meta c.keep_off.new.store.meta c.keep_off.result c.in-Ok.ensures.leaves.keeps.meta c.keep_off.ensures.is

pub returns-in-None-clause-numbers : goal.returns-in-None-clause-numbers
returns-in-None-clause-numbers g c = moves_behind c.args.store.now c.find_free_entry.new.store c.more.new.store c.more.result c.in-Ok.ensures.leaves.keeps c.more.ensures.numbers

pub returns-in-Some-clause-numbers : goal.returns-in-Some-clause-numbers
returns-in-Some-clause-numbers g c = moves_behind c.args.store.now c.find_free_entry.new.store c.keep_off.new.store c.keep_off.result c.in-Ok.ensures.leaves.keeps c.keep_off.ensures.numbers

pub returns-in-None-clause-steps : goal.returns-in-None-clause-steps
returns-in-None-clause-steps g c = λ at v told sound may.
    let x = c.args.x in
    let e = c.args.entry in
    let s = c.args.store.now.now in
    let t = c.more.new.store.now in
    let chain = Versions e in
    let same = (c.in-Ok.ensures.leaves.logs told sound).now in
    let found = c.in-Ok.ensures.finds told sound may.sound.sound.readable in
    let steps = subst (λ (u : State). MayExtend x chain Wanted u → IfOk c.more.result (ExtendsFor x chain Wanted u t)) same (c.more.ensures.steps told sound) in
    wants_versions x e at v s t c.in-Ok.free c.more.result c.in-None.is found
    (steps (record { sound = may.sound; is_open = may.is_open; there = may.there; on_way = record { holds = (may.no_page, tt); blank = tt } }))

pub returns-in-Some-clause-steps : goal.returns-in-Some-clause-steps
returns-in-Some-clause-steps g c = λ at v told sound may.
    let x = c.args.x in
    let e = c.args.entry in
    let q = c.in-Some.place in
    let entry = c.args.version.now in
    let s = c.args.store.now.now in
    let t = c.keep_off.new.store.now in
    let same = (c.in-Ok.ensures.leaves.logs told sound).now in
    let found = c.in-Ok.ensures.finds told sound may.sound.sound.readable in
    let P : State → Type 0 = λ u. MayKeepAt x e q u → IsCopyFor e at v entry u → IfOk c.keep_off.result (λ w. KeepsOff (off x e at v) q u t) in
    let steps = subst P same (c.keep_off.ensures.steps e at v told sound) in
    keeps_first x e at v s t q (λ w. LeavesItem 1 w c.find_free_entry.new.store.meta c.keep_off.new.store.meta) c.keep_off.result c.keep_off.ensures.is
    (steps (record { sound = may.sound; is_open = may.is_open; free = free_at e s c.in-Ok.free q c.in-Some.is found }) may.copy)

pub returns-in-Err-clause-refused : goal.returns-in-Err-clause-refused
returns-in-Err-clause-refused g c = λ at v told sound may.
    let e = c.args.entry in
    let s = c.args.store.now.now in
    by_disk (EndsVersions s.counted (pages_in s) e) (damage_told g.D.Disk c.find_free_entry.new.store) (Err c.in-Err.fault)
    (c.a_search_for_room_meets_no_damage.ensures s e may.sound c.requires.there) (c.in-Err.ensures.ends told sound)

pub returns-in-None-clause-refused : goal.returns-in-None-clause-refused
returns-in-None-clause-refused g c = λ at v told sound may.
    let chain = Versions c.args.entry in
    let same = (c.in-Ok.ensures.leaves.logs told sound).now in
    subst (λ (u : State). MayExtend c.args.x chain Wanted u → IfErr c.more.result (λ e. e ≡ Fault)) same (c.more.ensures.refused told sound)
    (record { sound = may.sound; is_open = may.is_open; there = may.there; on_way = record { holds = (may.no_page, tt); blank = tt } })

pub returns-in-Some-clause-refused : goal.returns-in-Some-clause-refused
returns-in-Some-clause-refused g c = λ at v told sound may.
    let x = c.args.x in
    let e = c.args.entry in
    let q = c.in-Some.place in
    let s = c.args.store.now.now in
    let same = (c.in-Ok.ensures.leaves.logs told sound).now in
    let found = c.in-Ok.ensures.finds told sound may.sound.sound.readable in
    let P : State → Type 0 = λ u. MayKeepAt x e q u → IsCopyFor e at v c.args.version.now u → IfErr c.keep_off.result (λ f. f ≡ Fault) in
    subst P same (c.keep_off.ensures.refused e at v told sound) (record { sound = may.sound; is_open = may.is_open; free = free_at e s c.in-Ok.free q c.in-Some.is found }) may.copy
