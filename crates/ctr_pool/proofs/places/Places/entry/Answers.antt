use Rattle.std.proofs.Common.{◌≡◌, ◌∙◌, ℕ, Some, get_or, length, sym, ap, subst, arith}
use Rattle.ctr_pool.specs.Kept.{PlaceList, place_of}
use Rattle.ctr_pool.proofs.PlaceLaws.{entry_at}
use Rattle.ctr_pool.proofs.places.Places.entry.Goals as goal

pub returns-clause-place : goal.returns-clause-place
returns-clause-place c =
    let es = c.self.inside.entries.items in
    let to : es ≡ c.args.self.now.entries = ap (λ (v : PlaceList). v.entries) c.self.view_is in
    let x = c.index.result.now in
    subst (λ (e : ℕ × ℕ). place_of e.0 c.args.self.now.entries ≡ Some e.1) (sym c.index.ensures)
    (ap (place_of (get_or es c.args.rank x).0) (sym to) ∙ entry_at es c.args.rank x c.self.invariant (omega (arith, c.requires, ap length to)))
