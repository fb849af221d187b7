use Rattle.ctr_base.specs.Base.{now_of}
use Rattle.ctr_base.specs.redo_States.{state_of, page_at}
use Rattle.ctr_store.proofs.store.Store.allow_keys.Goals as goal

pub invariant_of-self : goal.invariant_of-self
invariant_of-self g c =
    let inv = c.self.invariant in
    let base = c.self.inside.parts.base in
    record {
      fold = inv.fold;
      recalls = λ told sound going.
          c.allow.ensures base.root.pages (λ p. page_at p (state_of (now_of g.D.Disk base)).pages) (inv.recalls told sound going);
      buffer = inv.buffer;
      counted = inv.counted;
      numbers = inv.numbers;
    }
