-- Transactions stay as they may be.
use Rattle.std.proofs.Common.{◌≡◌, ◌⊎◌, ⊎_elim, ℕ, ◌+◌, ◌<◌, ◌≤◌, Bool, true, false, List, [], ◌∷◌, ◌++◌, refl, sym, ap, subst, ◌∙◌, arith}
use Rattle.ctr_rec.specs.declared.record.SlogItem.{SlogItem}
use Rattle.ctr_meta.specs.Tables.{is_in, without_xid, with_heads}
use Rattle.ctr_meta.specs.Kept.{XidsFit}
use Rattle.ctr_meta.proofs.XidLaws.{still_out, in_without, once_without, gone, in_more, once_more, in_set, once_set}

module _ (n : ℕ) (o a : List (ℕ × ℕ)) (i j : List SlogItem) (fit : XidsFit (record { next = n; opens = o; aborted = a; items = i })) where
  -- items have no part in it
  pub other_items : XidsFit (record { next = n; opens = o; aborted = a; items = j })
  other_items = record { some = fit.some; opens = fit.opens; aborted = fit.aborted; opens_once = fit.opens_once; aborted_once = fit.aborted_once }

  -- the next transaction is new
  next_out : (ps : List (ℕ × ℕ)) → ((x : ℕ) → is_in x ps ≡ true → x < n) → is_in n ps ≡ false
  next_out ps h = by (is_in n ps) (λ e. h n e)
    where
      by : (b : Bool) → (b ≡ true → n < n) → b ≡ false
      by true g = absurd (let k = g refl in omega arith)
      by false g = refl

  pub next_not_open : is_in n o ≡ false
  next_not_open = next_out o (λ x e. (fit.opens x e).1)

  next_not_aborted : is_in n a ≡ false
  next_not_aborted = next_out a (λ x e. (fit.aborted x e).1)

  pub begun_fits : (h : ℕ) → XidsFit (record { next = n + 1; opens = o ++ (n, h) ∷ []; aborted = a; items = j })
  begun_fits h = record {
    some = omega arith;
    opens = λ x e. ⊎_elim (λ old. let f = fit.opens x old in (f.0, omega (arith, f.1), f.2))
        (λ same. subst (λ (k : ℕ). (1 ≤ k) × (k < n + 1) × (is_in k a ≡ false)) (sym same) (fit.some, omega arith, next_not_aborted))
        (in_more n h x o e);
    aborted = λ x e. let f = fit.aborted x e in (f.0, omega (arith, f.1));
    opens_once = once_more n h o fit.opens_once next_not_open;
    aborted_once = fit.aborted_once;
  }

  pub ended_fits : (x : ℕ) → XidsFit (record { next = n; opens = without_xid x o; aborted = a; items = j })
  ended_fits x = record {
    some = fit.some;
    opens = λ y e. fit.opens y (in_without x y o e);
    aborted = fit.aborted;
    opens_once = once_without x o fit.opens_once;
    aborted_once = fit.aborted_once;
  }

  pub rolled_fits : (x h : ℕ) → is_in x o ≡ true → XidsFit (record { next = n; opens = without_xid x o; aborted = a ++ (x, h) ∷ []; items = j })
  rolled_fits x h there =
      let f = fit.opens x there in record {
        some = fit.some;
        opens = λ y e. let g = fit.opens y (in_without x y o e) in (g.0, g.1, out_too y e g.2);
        aborted = λ y e. ⊎_elim (λ old. fit.aborted y old) (λ same. subst (λ (k : ℕ). (1 ≤ k) × (k < n)) (sym same) (f.0, f.1)) (in_more x h y a e);
        opens_once = once_without x o fit.opens_once;
        aborted_once = once_more x h a fit.aborted_once f.2;
      }
    where
      out_too : (y : ℕ) → is_in y (without_xid x o) ≡ true → is_in y a ≡ false → is_in y (a ++ (x, h) ∷ []) ≡ false
      out_too y e out = by (is_in y (a ++ (x, h) ∷ [])) (in_more x h y a)
        where
          by : (b : Bool) → (b ≡ true → (is_in y a ≡ true) ⊎ (y ≡ x)) → b ≡ false
          by true g = ⊎_elim (λ old. absurd cc) (λ same. absurd (let no = ap (λ (k : ℕ). is_in k (without_xid x o)) same ∙ gone x o fit.opens_once in cc)) (g refl)
          by false g = refl

  pub forgotten_fits : (x : ℕ) → XidsFit (record { next = n; opens = o; aborted = without_xid x a; items = j })
  forgotten_fits x = record {
    some = fit.some;
    opens = λ y e. let g = fit.opens y e in (g.0, g.1, still_out _ _ (in_without x y a) g.2);
    aborted = λ y e. fit.aborted y (in_without x y a e);
    opens_once = fit.opens_once;
    aborted_once = once_without x a fit.aborted_once;
  }

  pub set_open_fits : (x h : ℕ) → XidsFit (record { next = n; opens = with_heads x h o; aborted = a; items = j })
  set_open_fits x h = record {
    some = fit.some;
    opens = λ y e. fit.opens y (sym (in_set x h y o) ∙ e);
    aborted = fit.aborted;
    opens_once = once_set x h o fit.opens_once;
    aborted_once = fit.aborted_once;
  }

  pub set_aborted_fits : (x h : ℕ) → XidsFit (record { next = n; opens = o; aborted = with_heads x h a; items = j })
  set_aborted_fits x h = record {
    some = fit.some;
    opens = λ y e. let g = fit.opens y e in (g.0, g.1, in_set x h y a ∙ g.2);
    aborted = λ y e. fit.aborted y (sym (in_set x h y a) ∙ e);
    opens_once = fit.opens_once;
    aborted_once = once_set x h a fit.aborted_once;
  }
