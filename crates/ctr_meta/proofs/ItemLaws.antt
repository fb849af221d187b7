-- The earliest item that is wanted, and what holds of all items.
use Rattle.std.proofs.Common.{◌≡◌, ℕ, zero, suc, ◌<◌, Bool, true, false, cond, List, [], ◌∷◌, length, get_or, refl, ap, ◌∙◌, arith}
use Rattle.std.specs.Prelude.{remove, filter}
use Rattle.std.specs.List.{AllByRecursion}
use Rattle.ctr_rec.specs.declared.record.SlogItem.{SlogItem}
use Rattle.ctr_meta.specs.declared.items.Wanted.{Wanted}
use Rattle.ctr_meta.specs.Items.{is_wanted, left_out}

out_first : (w : Wanted) (i : SlogItem) (is : List SlogItem) → is_wanted w i ≡ true → left_out w (i ∷ is) ≡ is
out_first w i is e = ap (λ (b : Bool). cond b is (i ∷ left_out w is)) e

out_rest : (w : Wanted) (i : SlogItem) (is : List SlogItem) → is_wanted w i ≡ false → left_out w (i ∷ is) ≡ i ∷ left_out w is
out_rest w i is e = ap (λ (b : Bool). cond b is (i ∷ left_out w is)) e

-- none before it is wanted, and it is
pub out_at : (w : Wanted) (is : List SlogItem) (at : ℕ) (d : SlogItem) → ((k : ℕ) → k < at → is_wanted w (get_or is k d) ≡ false) → at < length is → is_wanted w (get_or is at d) ≡ true → left_out w is ≡ remove is at
out_at w [] at d none lt some = absurd (omega (arith, lt))
out_at w (i ∷ is) zero d none lt some = out_first w i is some
out_at w (i ∷ is) (suc at) d none lt some =
    out_rest w i is (none 0 (omega arith)) ∙ ap (λ (l : List SlogItem). i ∷ l) (out_at w is at d (λ k less. none (suc k) (omega (arith, less))) (omega (arith, lt)) some)

-- none is wanted
pub out_none : (w : Wanted) (is : List SlogItem) (d : SlogItem) → ((k : ℕ) → k < length is → is_wanted w (get_or is k d) ≡ false) → left_out w is ≡ is
out_none w [] d none = refl
out_none w (i ∷ is) d none =
    out_rest w i is (none 0 (omega arith)) ∙ ap (λ (l : List SlogItem). i ∷ l) (out_none w is d (λ k less. none (suc k) (omega (arith, less))))

pub out_none_any : (w : Wanted) (is : List SlogItem) → ((k : ℕ) (d : SlogItem) → k < length is → is_wanted w (get_or is k d) ≡ false) → left_out w is ≡ is
out_none_any w [] none = refl
out_none_any w (i ∷ is) none = out_none w (i ∷ is) i (λ k less. none k i less)

-- ---- what holds of all items

pub all_filter : (P : SlogItem → Type 0) (p : SlogItem → Bool) (is : List SlogItem) → AllByRecursion P is → AllByRecursion P (filter p is)
all_filter P p [] all = tt
all_filter P p (i ∷ is) all = by (p i) (all_filter P p is all.1)
  where
    by : (b : Bool) → AllByRecursion P (filter p is) → AllByRecursion P (cond b (i ∷ filter p is) (filter p is))
    by true rest = (all.0, rest)
    by false rest = rest

pub all_out : (P : SlogItem → Type 0) (w : Wanted) (is : List SlogItem) → AllByRecursion P is → AllByRecursion P (left_out w is)
all_out P w [] all = tt
all_out P w (i ∷ is) all = by (is_wanted w i) (all_out P w is all.1)
  where
    by : (b : Bool) → AllByRecursion P (left_out w is) → AllByRecursion P (cond b is (i ∷ left_out w is))
    by true rest = all.1
    by false rest = (all.0, rest)
