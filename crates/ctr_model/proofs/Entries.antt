-- A key that is put among entries in order of key.
use Rattle.std.proofs.Common.{◌≡◌, ℕ, zero, suc, List, [], ◌∷◌, ◌++◌, take, drop, get_or, refl, ◌∙◌, ap, arith}
use Rattle.std.proofs.Math.ListN.{set}
use Rattle.std.specs.declared.cmp.Ordering.{Ordering}
use Rattle.std.specs.declared.cmp.Ordering.TheVariants.{Less, Equal, Greater}
use Rattle.std.specs.FinMap.Entries.{put, by_order}
use Rattle.ctr_model.specs.Maps.{IsKeyPlace, HasKeyAt}

less : (o : Ordering) → ¬ (o ≡ Greater) → ¬ (o ≡ Equal) → o ≡ Less
less Less p q = refl
less Equal p q = absurd (q refl)
less Greater p q = absurd (p refl)

module _ {K V : Type 0} (cmp : K → K → Ordering) (key : K) (value : V) where
  -- a new key goes to its place
  pub put_new : (es : List (K × V)) (n : ℕ) → IsKeyPlace cmp key es n → ¬ (HasKeyAt cmp key es n) → put cmp key value es ≡ take n es ++ (key, value) ∷ drop n es
  put_new [] zero at new = refl
  put_new [] (suc n) at new = absurd (omega (arith, at))
  put_new (e ∷ es) zero at new = ap (λ o. by_order o ((key, value) ∷ e ∷ es) ((e.0, value) ∷ es) (e ∷ put cmp key value es)) (less (cmp key e.0) at new)
  put_new (e ∷ es) (suc n) at new =
      ap (λ o. by_order o ((key, value) ∷ e ∷ es) ((e.0, value) ∷ es) (e ∷ put cmp key value es)) at.0
      ∙ ap (λ (l : List (K × V)). e ∷ l) (put_new es n at.1 new)

  -- a key that is there keeps its place
  pub put_over : (es : List (K × V)) (n : ℕ) (d : K × V) → IsKeyPlace cmp key es n → HasKeyAt cmp key es n → put cmp key value es ≡ set es n ((get_or es n d).0, value)
  put_over [] n d at is = absurd is
  put_over (e ∷ es) zero d at is = ap (λ o. by_order o ((key, value) ∷ e ∷ es) ((e.0, value) ∷ es) (e ∷ put cmp key value es)) is
  put_over (e ∷ es) (suc n) d at is =
      ap (λ o. by_order o ((key, value) ∷ e ∷ es) ((e.0, value) ∷ es) (e ∷ put cmp key value es)) at.0
      ∙ ap (λ (l : List (K × V)). e ∷ l) (put_over es n d at.1 is)
