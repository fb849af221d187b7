use Rattle.std.proofs.Common.{◌≡◌, ◌+◌, ℕ, Bool, true, List, [], ◌∷◌, ◌++◌, is_some, sym, ap, subst, ◌∙◌, arith}
use Rattle.std.specs.Prelude.{length, if◌then◌else◌}
use Rattle.ctr_meta.proofs.XidLaws.{some_there}
use Rattle.ctr_meta.specs.Tables.{is_in}
use Rattle.ctr_meta.specs.Kept.{XidsFit}
use Rattle.ctr_meta.proofs.Fits.{ended_fits, rolled_fits}
use Rattle.ctr_meta.proofs.meta.Meta.roll_back.Goals as goal

pub invariant_of-self-else-heads-gt0 : goal.invariant_of-self-else-heads-gt0
invariant_of-self-else-heads-gt0 c =
    let a = c.self.inside in
    record {
      xids = subst (λ (l : List (ℕ × ℕ)). XidsFit (record { next = a.next; opens = l; aborted = a.aborted.entries; items = a.items.items })) (sym c.remove.ensures.entries) (ended_fits a.next a.opens.entries a.aborted.entries a.items.items a.items.items c.self.invariant.xids c.args.x);
      ends = omega (arith, c.remove.ensures.len, c.self.invariant.ends);
      items = c.self.invariant.items;
    }

pub invariant_of-self : goal.invariant_of-self
invariant_of-self c =
    let a = c.self.inside in
    let x = c.args.x in
    let h = c.unwrap_or-heads.result in
    let o = a.opens.entries in
    let some : is_some c.remove.result ≡ true = some_there c.remove.result (omega (arith, c.unwrap_or-heads.ensures, c.if-heads-gt0.true)) in
    let there : is_in x o ≡ true = ap is_some (sym c.remove.ensures.heads) ∙ some in
    let one : length c.remove.new.self.entries + 1 ≡ length o = ap (λ (b : Bool). length c.remove.new.self.entries + (if b then 1 else 0)) (sym some) ∙ c.remove.ensures.len in
    record {
      xids = subst (λ (l : List (ℕ × ℕ)). XidsFit (record { next = a.next; opens = c.remove.new.self.entries; aborted = l; items = a.items.items })) (sym c.add.ensures.entries)
          (subst (λ (l : List (ℕ × ℕ)). XidsFit (record { next = a.next; opens = l; aborted = a.aborted.entries ++ (x, h) ∷ []; items = a.items.items })) (sym c.remove.ensures.entries) (rolled_fits a.next o a.aborted.entries a.items.items a.items.items c.self.invariant.xids x h there));
      ends = omega (arith, one, c.add.ensures.spare, c.self.invariant.ends);
      items = c.self.invariant.items;
    }
