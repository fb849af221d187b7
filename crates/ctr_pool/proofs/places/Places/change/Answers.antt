use Rattle.std.proofs.Common.{◌≡◌, ◌∙◌, true, false, is_some, sym, ap}
use Rattle.ctr_pool.specs.Kept.{PlaceList}
use Rattle.ctr_pool.proofs.PlaceLaws.{missing, put_ordered, put_places}
use Rattle.ctr_pool.proofs.places.Places.change.Goals as goal

pub unreachable-requires : goal.unreachable-requires
unreachable-requires c =
    let to = ap (λ (v : PlaceList). v.entries) c.self.view_is in
    let none = missing c.self.inside.entries.items c.deref.result.now c.args.self.now.entries c.in_default.field-0 c.args.page c.deref.ensures.value to c.self.invariant c.in_default.ensures.within c.in_default.ensures.below c.in_default.ensures.above in
    let out : false ≡ true = sym (ap is_some none) ∙ c.requires in
    absurd cc

pub invariant_of-self : goal.invariant_of-self
invariant_of-self c =
    let to = ap (λ (v : PlaceList). v.entries) c.self.view_is in
    put_ordered c.self.inside.entries.items c.deref.result.now c.args.self.now.entries c.in-Ok.rank c.args.page c.deref.ensures.value to c.self.invariant c.in-Ok.ensures.found c.args.at

pub returns-clause-places : goal.returns-clause-places
returns-clause-places c q =
    let to = ap (λ (v : PlaceList). v.entries) c.self.view_is in
    put_places c.self.inside.entries.items c.deref.result.now c.args.self.now.entries c.in-Ok.rank c.args.page c.deref.ensures.value to c.self.invariant c.in-Ok.ensures.found c.args.at q
