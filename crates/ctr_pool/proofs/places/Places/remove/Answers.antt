use Rattle.std.proofs.Common.{◌≡◌, ◌∙◌, ℕ, Option, None, is_some, cond, length, sym, ap, subst, arith}
use Rattle.ctr_pool.specs.Kept.{PlaceList, AreOrdered, place_of}
use Rattle.ctr_pool.proofs.AgeLaws.{stays_out}
use Rattle.ctr_pool.proofs.PlaceLaws.{found, missing, out_ordered, out_places}
use Rattle.ctr_pool.proofs.places.Places.remove.Goals.{In_default}
use Rattle.ctr_pool.proofs.places.Places.remove.Goals as goal

-- no entry has the page
none : (c : In_default) → place_of c.args.page c.args.self.now.entries ≡ None
none c =
    missing c.self.inside.entries.items c.deref.result.now c.args.self.now.entries c.in_default.field-0 c.args.page c.deref.ensures.value (ap (λ (v : PlaceList). v.entries) c.self.view_is) c.self.invariant c.in_default.ensures.within c.in_default.ensures.below c.in_default.ensures.above

pub returns-in_default-clause-places : goal.returns-in_default-clause-places
returns-in_default-clause-places c q = stays_out c.args.page q c.args.self.now.entries (none (goal.at.returns-in_default-clause-places c).In_default)

pub returns-in_default-clause-len : goal.returns-in_default-clause-len
returns-in_default-clause-len c =
    let z : cond {A = ℕ} (is_some (place_of c.args.page c.args.self.now.entries)) 1 0 ≡ 0 = ap (λ (o : Option ℕ). cond (is_some o) 1 0) (none (goal.at.returns-in_default-clause-len c).In_default) in
    omega (arith, z)

pub invariant_of-self : goal.invariant_of-self
invariant_of-self c =
    let to = ap (λ (v : PlaceList). v.entries) c.self.view_is in
    subst AreOrdered (sym c.remove.ensures.items) (out_ordered c.self.inside.entries.items c.deref.result.now c.args.self.now.entries c.in-Ok.rank c.args.page c.deref.ensures.value to c.self.invariant c.in-Ok.ensures.found)

pub returns-clause-places : goal.returns-clause-places
returns-clause-places c q =
    let to = ap (λ (v : PlaceList). v.entries) c.self.view_is in
    ap (place_of q) c.remove.ensures.items
    ∙ out_places c.self.inside.entries.items c.deref.result.now c.args.self.now.entries c.in-Ok.rank c.args.page c.deref.ensures.value to c.self.invariant c.in-Ok.ensures.found q

pub returns-clause-len : goal.returns-clause-len
returns-clause-len c =
    let to = ap (λ (v : PlaceList). v.entries) c.self.view_is in
    let there = found c.self.inside.entries.items c.deref.result.now c.args.self.now.entries c.in-Ok.rank c.args.page c.deref.ensures.value to c.self.invariant c.in-Ok.ensures.found (0, 0) in
    let one : cond {A = ℕ} (is_some (place_of c.args.page c.args.self.now.entries)) 1 0 ≡ 1 = ap (λ (o : Option ℕ). cond (is_some o) 1 0) there in
    omega (arith, one, c.remove.ensures.len, ap length to)
