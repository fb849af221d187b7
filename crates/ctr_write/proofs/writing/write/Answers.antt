use Rattle.std.proofs.Common.{◌≡◌, ℤ, w64, None, Some, sym, subst}
use Rattle.std.specs.Prelude.{IfOk, IfErr}
use Rattle.ctr_disk.specs.declared.fault.StoreFault.TheVariants.{Fault}
use Rattle.std.proofs.lemmas.Int.{to_z-of_z}
use Rattle.ctr_write.specs.declared.stages.Stage.{Stage}
use Rattle.ctr_write.specs.Stages.{IsAtStage}
use Rattle.ctr_write.specs.Laying.{Wish}
use Rattle.ctr_write.specs.Steps.{MayLook, EndsLooking, EndsWrite}
use Rattle.ctr_write.proofs.writing.write.Goals as goal

pub returns-in-Looking-clause-steps : goal.returns-in-Looking-clause-steps
returns-in-Looking-clause-steps g c = λ told sound may.
    let s = c.args.store.now.now in
    let t = c.look.new.store.now in
    let by : ℤ → Wish = λ k. record { x = c.args.x; entry = c.args.entry; key = k; head = c.args.head.now } in
    let wish = by c.args.key in
    let P : ℤ → Type 0 = λ k. MayLook (by k) None s → IfOk c.look.result (EndsLooking (by k) None s t) in
    let steps = subst P (to_z-of_z w64 c.args.key c.ranges.key) (c.look.ensures.steps told sound) in
    let no_page = subst (λ (st : Stage). IsAtStage c.args.x c.args.entry c.args.key st s) c.in-Looking.is may.at_stage in
    subst (λ (st : Stage). IfOk c.look.result (EndsWrite wish st s t)) (sym c.in-Looking.is) (steps (record { lay = may.lay; there = may.there; no_page = no_page; copy = tt }))

pub returns-in-Kept-clause-steps : goal.returns-in-Kept-clause-steps
returns-in-Kept-clause-steps g c = λ told sound may.
    let s = c.args.store.now.now in
    let t = c.look-in-Kept.new.store.now in
    let q = c.in-Kept.place in
    let by : ℤ → Wish = λ k. record { x = c.args.x; entry = c.args.entry; key = k; head = c.args.head.now } in
    let wish = by c.args.key in
    let P : ℤ → Type 0 = λ k. MayLook (by k) (Some q) s → IfOk c.look-in-Kept.result (EndsLooking (by k) (Some q) s t) in
    let steps = subst P (to_z-of_z w64 c.args.key c.ranges.key) (c.look-in-Kept.ensures.steps told sound) in
    let has = subst (λ (st : Stage). IsAtStage c.args.x c.args.entry c.args.key st s) c.in-Kept.is may.at_stage in
    subst (λ (st : Stage). IfOk c.look-in-Kept.result (EndsWrite wish st s t)) (sym c.in-Kept.is) (steps (record { lay = may.lay; there = may.there; no_page = has.0; copy = has.1 }))

pub returns-in-Looking-clause-refused : goal.returns-in-Looking-clause-refused
returns-in-Looking-clause-refused g c = λ told sound may.
    let s = c.args.store.now.now in
    let by : ℤ → Wish = λ k. record { x = c.args.x; entry = c.args.entry; key = k; head = c.args.head.now } in
    let no_page = subst (λ (st : Stage). IsAtStage c.args.x c.args.entry c.args.key st s) c.in-Looking.is may.at_stage in
    subst (λ (k : ℤ). MayLook (by k) None s → IfErr c.look.result (λ e. e ≡ Fault)) (to_z-of_z w64 c.args.key c.ranges.key) (c.look.ensures.refused told sound)
    (record { lay = may.lay; there = may.there; no_page = no_page; copy = tt })

pub returns-in-Kept-clause-refused : goal.returns-in-Kept-clause-refused
returns-in-Kept-clause-refused g c = λ told sound may.
    let s = c.args.store.now.now in
    let q = c.in-Kept.place in
    let by : ℤ → Wish = λ k. record { x = c.args.x; entry = c.args.entry; key = k; head = c.args.head.now } in
    let has = subst (λ (st : Stage). IsAtStage c.args.x c.args.entry c.args.key st s) c.in-Kept.is may.at_stage in
    subst (λ (k : ℤ). MayLook (by k) (Some q) s → IfErr c.look-in-Kept.result (λ e. e ≡ Fault)) (to_z-of_z w64 c.args.key c.ranges.key) (c.look-in-Kept.ensures.refused told sound)
    (record { lay = may.lay; there = may.there; no_page = has.0; copy = has.1 })
