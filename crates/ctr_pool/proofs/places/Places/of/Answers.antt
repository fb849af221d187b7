use Rattle.std.proofs.Common.{◌∙◌, ℕ, Some, sym, ap}
use Rattle.ctr_pool.specs.Kept.{PlaceList}
use Rattle.ctr_pool.proofs.PlaceLaws.{found, missing}
use Rattle.ctr_pool.proofs.places.Places.of.Goals as goal

pub returns-in-Ok : goal.returns-in-Ok
returns-in-Ok c =
    let to = ap (λ (v : PlaceList). v.entries) c.self.view_is in
    sym (found c.self.inside.entries.items c.deref.result.now c.args.self.now.entries c.in-Ok.rank c.args.page c.deref.ensures.value to c.self.invariant c.in-Ok.ensures.found c.index.result.now ∙ ap (λ (e : ℕ × ℕ). Some e.1) (sym c.index.ensures))

pub returns-in-Err : goal.returns-in-Err
returns-in-Err c =
    let to = ap (λ (v : PlaceList). v.entries) c.self.view_is in
    sym (missing c.self.inside.entries.items c.deref.result.now c.args.self.now.entries c.in-Err.field-0 c.args.page c.deref.ensures.value to c.self.invariant c.in-Err.ensures.within c.in-Err.ensures.below c.in-Err.ensures.above)
