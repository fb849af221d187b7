use Rattle.std.proofs.Common.{◌≡◌, ◌∙◌, ℤ, w64, to_z, of_z, Err, refl, ap, subst}
use Rattle.std.specs.Prelude.{IfOk, IfErr}
use Rattle.std.proofs.lemmas.Int.{to_z-of_z}
use Rattle.ctr_disk.specs.declared.fault.StoreFault.TheVariants.{Fault}
use Rattle.ctr_extend.specs.heap_SlotSought_TheVariants as sought
use Rattle.ctr_extend.specs.heap_Finding.{EndsBucket}
use Rattle.ctr_extend.specs.record_effects_States.{pages_in}
use Rattle.ctr_extend.specs.walk_Damage.{damage_told}
use Rattle.ctr_meta.specs.Kept.{TablesKept}
use Rattle.ctr_page.specs.declared.checks.Chain.TheVariants.{Rows}
use Rattle.ctr_page.specs.Places.{bucket_of}
use Rattle.ctr_redo.specs.States.{State}
use Rattle.ctr_extend.specs.record_effects_States.{area_in}
use Rattle.ctr_extend.specs.record_laws_Owed.{FirstVersion, IsRoomFor}
use Rattle.ctr_extend.proofs.walk_Joins.{answers_ok}
use Rattle.ctr_extend.specs.declared.ways.OnWay.TheVariants.{Wanted}
use Rattle.ctr_extend.specs.Steps.{MayExtend}
use Rattle.ctr_write.specs.declared.stages.Written.TheVariants.{Done}
use Rattle.ctr_write.specs.Stages.{IsCountedWrite, LeavesItem}
use Rattle.ctr_write.specs.Extending.{ExtendsFor}
use Rattle.ctr_write.specs.Laying.{Wish, MayLay, LaysHead}
use Rattle.ctr_write.proofs.Extended.{moves_behind}
use Rattle.ctr_write.proofs.Ending.{so_far, left_so, room_of, wants_rows, lays_first}
use Rattle.ctr_write.proofs.Refusing.{by_disk}
use Rattle.ctr_write.proofs.placing.place_first.Goals as goal

pub returns-in-Err-clause-turns : goal.returns-in-Err-clause-turns
returns-in-Err-clause-turns g c = c.a_turn_goes_on.ensures.unread g.O.Origin.first c.args.store.now c.free_slot.new.store c.in-Err.fault (Err c.in-Err.fault) (Err c.in-Err.fault) c.in-Err.ensures.leaves refl refl

pub returns-in-None-clause-turns : goal.returns-in-None-clause-turns
returns-in-None-clause-turns g c = c.a_turn_goes_on.ensures.behind g.O.Origin.first c.args.store.now c.free_slot.new.store c.more.new.store c.in-Ok.free c.more.result c.in-Ok.ensures.leaves c.more.ensures.turns

pub returns-in-Some-clause-turns : goal.returns-in-Some-clause-turns
returns-in-Some-clause-turns g c = c.lay_first.ensures.turns c.args.store.now (answers_ok g.O.Origin.first g.D.Disk c.in-Ok.free tt c.args.store.now c.free_slot.new.store c.in-Ok.ensures.leaves)

pub returns-in-Some-clause-inside : goal.returns-in-Some-clause-inside
returns-in-Some-clause-inside g c = so_far Done (λ w. LeavesItem 1 w c.free_slot.new.store.meta c.lay_first.new.store.meta) (λ w. IsCountedWrite w c.lay_first.new.store.now.counted) c.lay_first.result tt c.lay_first.ensures.is

pub returns-in-None-clause-left : goal.returns-in-None-clause-left
returns-in-None-clause-left g c = subst (λ (k : TablesKept). IfOk c.more.result (λ w. LeavesItem 1 w k c.more.new.store.meta)) c.in-Ok.ensures.leaves.keeps.meta c.more.ensures.left

pub returns-in-Some-clause-left : goal.returns-in-Some-clause-left
returns-in-Some-clause-left g c = left_so 1 Done c.args.store.now.meta c.free_slot.new.store.meta c.lay_first.new.store.meta c.lay_first.result c.in-Ok.ensures.leaves.keeps.meta c.lay_first.ensures.is

pub returns-in-None-clause-numbers : goal.returns-in-None-clause-numbers
returns-in-None-clause-numbers g c = moves_behind c.args.store.now c.free_slot.new.store c.more.new.store c.more.result c.in-Ok.ensures.leaves.keeps c.more.ensures.numbers

pub returns-in-Some-clause-numbers : goal.returns-in-Some-clause-numbers
returns-in-Some-clause-numbers g c = moves_behind c.args.store.now c.free_slot.new.store c.lay_first.new.store c.lay_first.result c.in-Ok.ensures.leaves.keeps c.lay_first.ensures.numbers

pub returns-in-None-clause-steps : goal.returns-in-None-clause-steps
returns-in-None-clause-steps g c = λ told sound may.
    let x = c.args.x in
    let s = c.args.store.now.now in
    let t = c.more.new.store.now in
    let wish : Wish = record { x = x; entry = c.args.entry; key = c.args.key; head = c.args.head.now } in
    let b = c.bucket_of-bucket.result in
    let chain = Rows c.args.entry b in
    let same = (c.in-Ok.ensures.leaves.logs told sound).now in
    let found = c.in-Ok.ensures.finds told sound may.lay.sound.sound.readable in
    let bucket = c.bucket_of-bucket.ensures.value ∙ ap bucket_of (to_z-of_z w64 c.args.key c.ranges.key) in
    let steps = subst (λ (u : State). MayExtend x chain Wanted u → IfOk c.more.result (ExtendsFor x chain Wanted u t)) same (c.more.ensures.steps told sound) in
    wants_rows wish s t b c.in-Ok.free c.more.result bucket c.in-None.is found
    (steps (record { sound = may.lay.sound; is_open = may.lay.is_open; there = may.there; on_way = record { holds = (may.no_page, tt); blank = tt } }))

pub returns-in-Some-clause-steps : goal.returns-in-Some-clause-steps
returns-in-Some-clause-steps g c = λ told sound may.
    let e = c.args.entry in
    let at = c.in-Some.place in
    let s = c.args.store.now.now in
    let t = c.lay_first.new.store.now in
    let by : ℤ → Wish = λ k. record { x = c.args.x; entry = e; key = k; head = c.args.head.now } in
    let wish = by c.args.key in
    let b = c.bucket_of-bucket.result in
    let same = (c.in-Ok.ensures.leaves.logs told sound).now in
    let found = c.in-Ok.ensures.finds told sound may.lay.sound.sound.readable in
    let free = room_of wish s t b c.in-Ok.free at may (c.bucket_of-bucket.ensures.value ∙ ap bucket_of (to_z-of_z w64 c.args.key c.ranges.key)) c.in-Some.is found in
    let P : ℤ → State → Type 0 = λ k u. MayLay (by k) u → IsRoomFor (area_in u) e k at → IfOk c.lay_first.result (λ w. LaysHead (by k) at FirstVersion u t) in
    let steps = subst (λ (k : ℤ). P k s) (to_z-of_z w64 c.args.key c.ranges.key) (subst (λ (u : State). P (to_z w64 (of_z w64 c.args.key)) u) same (c.lay_first.ensures.steps e told sound)) in
    lays_first wish s t at (λ w. LeavesItem 1 w c.free_slot.new.store.meta c.lay_first.new.store.meta) c.lay_first.result free c.lay_first.ensures.is (steps may.lay free)

pub returns-in-Err-clause-refused : goal.returns-in-Err-clause-refused
returns-in-Err-clause-refused g c = λ told sound may.
    let e = c.args.entry in
    let s = c.args.store.now.now in
    let b = c.bucket_of-bucket.result in
    by_disk (EndsBucket s.counted (pages_in s) e b sought.Free) (damage_told g.D.Disk c.free_slot.new.store) (Err c.in-Err.fault)
    (c.a_bucket_search_meets_no_damage.ensures s e b sought.Free may.lay.sound c.requires.there) (c.in-Err.ensures.ends told sound)

pub returns-in-None-clause-refused : goal.returns-in-None-clause-refused
returns-in-None-clause-refused g c = λ told sound may.
    let chain = Rows c.args.entry c.bucket_of-bucket.result in
    let same = (c.in-Ok.ensures.leaves.logs told sound).now in
    subst (λ (u : State). MayExtend c.args.x chain Wanted u → IfErr c.more.result (λ e. e ≡ Fault)) same (c.more.ensures.refused told sound)
    (record { sound = may.lay.sound; is_open = may.lay.is_open; there = may.there; on_way = record { holds = (may.no_page, tt); blank = tt } })

pub returns-in-Some-clause-refused : goal.returns-in-Some-clause-refused
returns-in-Some-clause-refused g c = λ told sound may.
    let e = c.args.entry in
    let at = c.in-Some.place in
    let s = c.args.store.now.now in
    let by : ℤ → Wish = λ k. record { x = c.args.x; entry = e; key = k; head = c.args.head.now } in
    let b = c.bucket_of-bucket.result in
    let same = (c.in-Ok.ensures.leaves.logs told sound).now in
    let found = c.in-Ok.ensures.finds told sound may.lay.sound.sound.readable in
    let free = room_of (by c.args.key) s c.lay_first.new.store.now b c.in-Ok.free at may (c.bucket_of-bucket.ensures.value ∙ ap bucket_of (to_z-of_z w64 c.args.key c.ranges.key)) c.in-Some.is found in
    let P : ℤ → State → Type 0 = λ k u. MayLay (by k) u → IsRoomFor (area_in u) e k at → IfErr c.lay_first.result (λ f. f ≡ Fault) in
    subst (λ (k : ℤ). P k s) (to_z-of_z w64 c.args.key c.ranges.key) (subst (λ (u : State). P (to_z w64 (of_z w64 c.args.key)) u) same (c.lay_first.ensures.refused e told sound)) may.lay free
