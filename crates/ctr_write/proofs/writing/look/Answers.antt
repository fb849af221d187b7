use Rattle.std.proofs.Common.{◌≡◌, ℤ, w64, to_z, of_z, Err, refl, subst}
use Rattle.std.specs.Prelude.{IfOk, IfErr}
use Rattle.ctr_disk.specs.declared.fault.StoreFault.TheVariants.{Fault}
use Rattle.ctr_extend.specs.record_effects_States.{pages_in}
use Rattle.ctr_extend.specs.walk_Damage.{damage_told}
use Rattle.ctr_extend.specs.heap_SlotSought_TheVariants as sought
use Rattle.ctr_page.specs.Places.{bucket_of}
use Rattle.ctr_extend.specs.heap_Finding.{EndsBucket}
use Rattle.std.proofs.lemmas.Int.{to_z-of_z}
use Rattle.ctr_meta.specs.Kept.{TablesKept}
use Rattle.ctr_redo.specs.States.{State}
use Rattle.ctr_extend.specs.record_effects_States.{area_in}
use Rattle.ctr_extend.specs.record_laws_Owed.{IsSlotOfKey}
use Rattle.ctr_write.specs.Stages.{LeavesItem}
use Rattle.ctr_write.specs.Laying.{Wish}
use Rattle.ctr_write.specs.Steps.{MayLook, MayPlace, EndsPlacing, EndsOver}
use Rattle.ctr_write.proofs.Extended.{moves_behind}
use Rattle.ctr_write.proofs.Turning.{found_none, found_one, looks_none, looks_one}
use Rattle.ctr_write.proofs.Refusing.{by_disk}
use Rattle.ctr_write.proofs.writing.look.Goals as goal

pub returns-in-Err-clause-turns : goal.returns-in-Err-clause-turns
returns-in-Err-clause-turns g c = c.a_turn_goes_on.ensures.unread g.O.Origin.first c.args.store.now c.find.new.store c.in-Err.fault (Err c.in-Err.fault) (Err c.in-Err.fault) c.in-Err.ensures.leaves refl refl

pub returns-in-None-clause-turns : goal.returns-in-None-clause-turns
returns-in-None-clause-turns g c = c.a_turn_goes_on.ensures.behind g.O.Origin.first c.args.store.now c.find.new.store c.place_first.new.store c.in-Ok.found c.place_first.result c.in-Ok.ensures.leaves c.place_first.ensures.turns

pub returns-in-Some-clause-turns : goal.returns-in-Some-clause-turns
returns-in-Some-clause-turns g c = c.a_turn_goes_on.ensures.behind g.O.Origin.first c.args.store.now c.find.new.store c.write_over.new.store c.in-Ok.found c.write_over.result c.in-Ok.ensures.leaves c.write_over.ensures.turns

pub returns-in-None-clause-left : goal.returns-in-None-clause-left
returns-in-None-clause-left g c = subst (λ (k : TablesKept). IfOk c.place_first.result (λ w. LeavesItem 1 w k c.place_first.new.store.meta)) c.in-Ok.ensures.leaves.keeps.meta c.place_first.ensures.left

pub returns-in-Some-clause-left : goal.returns-in-Some-clause-left
returns-in-Some-clause-left g c = subst (λ (k : TablesKept). IfOk c.write_over.result (λ w. LeavesItem 1 w k c.write_over.new.store.meta)) c.in-Ok.ensures.leaves.keeps.meta c.write_over.ensures.left

pub returns-in-None-clause-numbers : goal.returns-in-None-clause-numbers
returns-in-None-clause-numbers g c = moves_behind c.args.store.now c.find.new.store c.place_first.new.store c.place_first.result c.in-Ok.ensures.leaves.keeps c.place_first.ensures.numbers

pub returns-in-Some-clause-numbers : goal.returns-in-Some-clause-numbers
returns-in-Some-clause-numbers g c = moves_behind c.args.store.now c.find.new.store c.write_over.new.store c.write_over.result c.in-Ok.ensures.leaves.keeps c.write_over.ensures.numbers

pub returns-in-None-clause-steps : goal.returns-in-None-clause-steps
returns-in-None-clause-steps g c = λ told sound may.
    let s = c.args.store.now.now in
    let t = c.place_first.new.store.now in
    let by : ℤ → Wish = λ k. record { x = c.args.x; entry = c.args.entry; key = k; head = c.args.head.now } in
    let wish = by c.args.key in
    let key = to_z-of_z w64 c.args.key c.ranges.key in
    let k = to_z w64 (of_z w64 c.args.key) in
    let same = (c.in-Ok.ensures.leaves.logs told sound).now in
    let found = found_none (area_in s) c.args.entry k c.args.key c.in-Ok.found key c.in-None.is (c.in-Ok.ensures.finds told sound may.lay.sound.sound.readable) may.lay.sound.sound.keys in
    let P : ℤ → State → Type 0 = λ j u. MayPlace (by j) u → IfOk c.place_first.result (EndsPlacing (by j) u t) in
    let steps = subst (λ (j : ℤ). P j s) key (subst (λ (u : State). P k u) same (c.place_first.ensures.steps told sound)) in
    looks_none wish c.args.kept s t c.place_first.result found (steps (record { lay = may.lay; there = may.there; no_page = may.no_page; none = found }))

pub returns-in-Some-clause-steps : goal.returns-in-Some-clause-steps
returns-in-Some-clause-steps g c = λ told sound may.
    let at = c.in-Some.place in
    let kept = c.args.kept in
    let s = c.args.store.now.now in
    let t = c.write_over.new.store.now in
    let wish : Wish = record { x = c.args.x; entry = c.args.entry; key = c.args.key; head = c.args.head.now } in
    let key = to_z-of_z w64 c.args.key c.ranges.key in
    let k = to_z w64 (of_z w64 c.args.key) in
    let same = (c.in-Ok.ensures.leaves.logs told sound).now in
    let found = found_one (area_in s) c.args.entry k c.args.key c.in-Ok.found at key c.in-Some.is (c.in-Ok.ensures.finds told sound may.lay.sound.sound.readable) in
    let P : State → Type 0 = λ u. MayLook wish kept u → IsSlotOfKey (area_in u) c.args.entry c.args.key at → IfOk c.write_over.result (EndsOver wish at kept u t) in
    let steps = subst P same (c.write_over.ensures.steps c.args.key told sound) in
    looks_one wish kept s t at c.write_over.result found (steps may found)

pub returns-in-Err-clause-refused : goal.returns-in-Err-clause-refused
returns-in-Err-clause-refused g c = λ told sound may.
    let e = c.args.entry in
    let k = to_z w64 (of_z w64 c.args.key) in
    let s = c.args.store.now.now in
    by_disk (EndsBucket s.counted (pages_in s) e (bucket_of k) (sought.Key k)) (damage_told g.D.Disk c.find.new.store) (Err c.in-Err.fault)
    (c.a_bucket_search_meets_no_damage.ensures s e (bucket_of k) (sought.Key k) may.lay.sound c.requires.there) (c.in-Err.ensures.ends told sound)

pub returns-in-None-clause-refused : goal.returns-in-None-clause-refused
returns-in-None-clause-refused g c = λ told sound may.
    let s = c.args.store.now.now in
    let by : ℤ → Wish = λ k. record { x = c.args.x; entry = c.args.entry; key = k; head = c.args.head.now } in
    let key = to_z-of_z w64 c.args.key c.ranges.key in
    let k = to_z w64 (of_z w64 c.args.key) in
    let same = (c.in-Ok.ensures.leaves.logs told sound).now in
    let found = found_none (area_in s) c.args.entry k c.args.key c.in-Ok.found key c.in-None.is (c.in-Ok.ensures.finds told sound may.lay.sound.sound.readable) may.lay.sound.sound.keys in
    let P : ℤ → State → Type 0 = λ j u. MayPlace (by j) u → IfErr c.place_first.result (λ e. e ≡ Fault) in
    subst (λ (j : ℤ). P j s) key (subst (λ (u : State). P k u) same (c.place_first.ensures.refused told sound)) (record { lay = may.lay; there = may.there; no_page = may.no_page; none = found })

pub returns-in-Some-clause-refused : goal.returns-in-Some-clause-refused
returns-in-Some-clause-refused g c = λ told sound may.
    let at = c.in-Some.place in
    let kept = c.args.kept in
    let s = c.args.store.now.now in
    let wish : Wish = record { x = c.args.x; entry = c.args.entry; key = c.args.key; head = c.args.head.now } in
    let key = to_z-of_z w64 c.args.key c.ranges.key in
    let k = to_z w64 (of_z w64 c.args.key) in
    let same = (c.in-Ok.ensures.leaves.logs told sound).now in
    let found = found_one (area_in s) c.args.entry k c.args.key c.in-Ok.found at key c.in-Some.is (c.in-Ok.ensures.finds told sound may.lay.sound.sound.readable) in
    subst (λ (u : State). MayLook wish kept u → IsSlotOfKey (area_in u) c.args.entry c.args.key at → IfErr c.write_over.result (λ e. e ≡ Fault)) same (c.write_over.ensures.refused c.args.key told sound) may found
