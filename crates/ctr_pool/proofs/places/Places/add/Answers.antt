use Rattle.std.proofs.Common.{◌≡◌, ◌∙◌, cond, sym, ap, subst}
use Rattle.std.specs.Prelude.{insert, is_ok}
use Rattle.ctr_pool.specs.Kept.{PlaceList, AreOrdered, place_of}
use Rattle.ctr_pool.proofs.PlaceLaws.{found, add_ordered, add_places}
use Rattle.ctr_pool.proofs.places.Places.add.Goals.{After-unwrap}
use Rattle.ctr_pool.proofs.places.Places.add.Goals as goal

pub unreachable-requires : goal.unreachable-requires
unreachable-requires c =
    let to = ap (λ (v : PlaceList). v.entries) c.self.view_is in
    let there = found c.self.inside.entries.items c.deref.result.now c.args.self.now.entries c.in_default.field-0 c.args.page c.deref.ensures.value to c.self.invariant c.in_default.ensures.found (0, 0) in
    let both = sym c.requires.new ∙ there in
    absurd cc

-- the entries that callers see are those that are kept
shown : (c : After-unwrap) → c.self.inside.entries.items ≡ c.args.self.now.entries
shown c = ap (λ (v : PlaceList). v.entries) c.self.view_is

put : (c : After-unwrap) → c.insert.new.self.items ≡ insert c.self.inside.entries.items c.in-Err.rank (c.args.page, c.args.at)
put c = c.insert.ensures.items ∙ ap (λ r. cond (is_ok r) (insert c.self.inside.entries.items c.in-Err.rank (c.args.page, c.args.at)) c.self.inside.entries.items) c.unwrap.ensures

pub invariant_of-self : goal.invariant_of-self
invariant_of-self c =
    let at = (goal.at.invariant_of-self c).After-unwrap in
    subst AreOrdered (sym (put at)) (add_ordered c.self.inside.entries.items c.deref.result.now c.args.self.now.entries c.in-Err.rank c.args.page c.deref.ensures.value (shown at) c.self.invariant c.in-Err.ensures.within c.in-Err.ensures.below c.in-Err.ensures.above c.args.at)

pub returns-clause-places : goal.returns-clause-places
returns-clause-places c q =
    let at = (goal.at.returns-clause-places c).After-unwrap in
    ap (place_of q) (put at) ∙ add_places c.self.inside.entries.items c.deref.result.now c.args.self.now.entries c.in-Err.rank c.args.page c.deref.ensures.value (shown at) c.self.invariant c.in-Err.ensures.within c.in-Err.ensures.below c.in-Err.ensures.above c.args.at q
