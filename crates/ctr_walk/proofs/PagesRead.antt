-- Pages of a store, read one behind another.
use Rattle.std.proofs.Common.{◌≡◌, ◌⊎◌, inl, inr, false, Result, Ok, ◌∙◌, ap, subst}
use Rattle.std.specs.Prelude.{IsTrue, ⊤}
use Rattle.ctr_disk.specs.declared.disk.Disk.{Ghosts}
use Rattle.ctr_disk.specs.Image.{Image}
use Rattle.ctr_disk.specs.declared.fault.StoreFault.{StoreFault}
use Rattle.ctr_store.specs.base_Base.{IsSoundImage}
use Rattle.ctr_store.specs.Store.{View, LeavesPage}
use Rattle.ctr_walk.proofs.Joins.{pages_join}

module _ {D : Type 0} (first : Image) (g : Ghosts D) where
  -- no page was read yet, or some were
  abbrev pub HasRead : Type 0 → View D → View D → Type 0
  HasRead Untouched a b = ((b ≡ a) × Untouched) ⊎ LeavesPage {T = ⊤} first g a b (Ok tt)

  pub reads_on : {T : Type 0} (Untouched : Type 0) (a b c : View D) (result : Result T StoreFault) → HasRead Untouched a b → LeavesPage first g b c result → LeavesPage first g a c result
  reads_on {T} U a b c result (inl u) two = subst (λ (v : View D). LeavesPage {T = T} first g v c result) u.0 two
  reads_on {T} U a b c result (inr one) two = pages_join g a b c first ⊤ T tt result one two

  pub still_goes : (Untouched : Type 0) (a b : View D) → HasRead Untouched a b → a.stopped ≡ false → b.stopped ≡ false
  still_goes U a b (inl u) going = ap (λ (v : View D). v.stopped) u.0 ∙ going
  still_goes U a b (inr one) going = one.going

  pub same_now : (Untouched : Type 0) (a b : View D) → HasRead Untouched a b → IsTrue g.tells → IsSoundImage first → b.now ≡ a.now
  same_now U a b (inl u) told sound = ap (λ (v : View D). v.now) u.0
  same_now U a b (inr one) told sound = (one.logs told sound).now

  -- where some page was read
  pub was_read : (Untouched : Type 0) (a b : View D) → HasRead Untouched a b → (Untouched → ⊥) → LeavesPage {T = ⊤} first g a b (Ok tt)
  was_read U a b (inl u) none = absurd (none u.1)
  was_read U a b (inr one) none = one

  -- the tables are as they were
  pub same_meta : (Untouched : Type 0) (a b : View D) → HasRead Untouched a b → b.meta ≡ a.meta
  same_meta U a b (inl u) = ap (λ (v : View D). v.meta) u.0
  same_meta U a b (inr one) = one.keeps.meta
