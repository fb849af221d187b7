use Rattle.std.proofs.Common.{◌≡◌, ◌+◌, ℕ, List, [], ◌∷◌, ◌++◌, sym, ap, subst, ◌∙◌, arith}
use Rattle.ctr_meta.specs.Kept.{TablesKept, XidsFit}
use Rattle.ctr_meta.proofs.Fits.{begun_fits}
use Rattle.ctr_meta.proofs.meta.Meta.begin.Goals as goal

pub invariant_of-self : goal.invariant_of-self
invariant_of-self c =
    let a = c.self.inside in
    let x : a.next ≡ c.args.x = ap (λ (k : TablesKept). k.tables.next) c.self.view_is ∙ c.requires.next in
    let put : a.opens.entries ++ (a.next, 0) ∷ [] ≡ c.add.new.self.entries = ap (λ (k : ℕ). a.opens.entries ++ (k, 0) ∷ []) x ∙ sym c.add.ensures.entries in
    record {
      xids = subst (λ (l : List (ℕ × ℕ)). XidsFit (record { next = a.next + 1; opens = l; aborted = a.aborted.entries; items = a.items.items })) put (begun_fits a.next a.opens.entries a.aborted.entries a.items.items a.items.items c.self.invariant.xids 0);
      ends = omega (arith, c.add.ensures.len, c.requires.room, ap (λ (k : TablesKept). k.opens_room) c.self.view_is);
      items = c.self.invariant.items;
    }
