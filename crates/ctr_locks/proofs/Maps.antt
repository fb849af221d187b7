-- Look-ups in a map after one key was written.
use Rattle.std.proofs.Common.{◌≡◌, ℕ, ℤ, Bool, true, false, cond, T, List, [], ◌∷◌, map, Option, Some, None, Bor, refl, sym, ◌∙◌, ap, subst}
use Rattle.std.specs.Prelude.{IsSome, is_some, unwrap_or, ◌&&◌, ◌||◌}
use Rattle.std.specs.Option.{option_copied}
use Rattle.std.specs.declared.cmp.Ordering.{Ordering}
use Rattle.std.specs.declared.cmp.Ordering.TheVariants.{Less}
use Rattle.std.specs.List.{AllByRecursion}
use Rattle.std.specs.List.Sorted.{IsStrictlySortedBy}
use Rattle.std.specs.Ordering.{nat_cmp, int_cmp, is_eq, is_lt}
use Rattle.std.specs.Cmp.{signed_Decides, unsigned_tied}
use Rattle.std.specs.Cmp.Lexicographic.{bytes_decides, texts_ties}
use Rattle.std.specs.Map.{lookup}
use Rattle.std.specs.BTreeMap.{BTreeMap, is_at, get_by, UpdatesBy, WritesThrough}
use Rattle.std.specs.FinMap.Entries.{find, is_sorted, below_all}
use Rattle.std.proofs.lemmas.Bool.{false≢true, eqb-true}
use Rattle.ctr_model.specs.Database.{name_cmp}
use Rattle.ctr_model.proofs.Sessions.{known}

pub some_is : {X : Type 0} (x y : X) → Some x ≡ Some y → x ≡ y
some_is x y is = ap (λ o. unwrap_or o x) is

pub none_some : {X : Type 0} (v : X) → None ≡ Some v → ⊥
none_some v is = false≢true (ap is_some is)

pub unsome : {X : Type 0} (o : Option X) → is_some o ≡ false → o ≡ None
unsome (Some x) is = absurd (false≢true (sym is))
unsome None is = refl

-- what was found, copied
pub uncopied : {X : Type 0} (o : Option (Bor X)) → is_some o ≡ false → option_copied o ≡ None
uncopied (Some x) is = absurd (false≢true (sym is))
uncopied None is = refl

pub copied : {X : Type 0} (o : Option (Bor X)) → is_some o ≡ true → is_some (option_copied o) ≡ true
copied (Some x) is = refl
copied None is = is

pub both : (a b : Bool) → T a → T b → T (a && b)
both a b p q = subst (λ c. T (c && b)) (sym (true_of a p)) q
  where
    true_of : (a : Bool) → T a → a ≡ true
    true_of true p = refl
    true_of false p = absurd p

module _ {K X : Type 0} (R : K → K → Ordering) where
  looked_up : (q : K) (es : List (K × X)) → lookup (is_at (R q)) es ≡ find R q es
  looked_up q [] = refl
  looked_up q (e ∷ es) = ap (λ r. cond (is_at (R q) e.0) (Some e.1) r) (looked_up q es)

  -- what a look-up found
  pub found : (m : BTreeMap K X) (q : K) (o : Option X) → o ≡ get_by (R q) m → find R q m.entries ≡ o
  found m q o is = sym (looked_up q m.entries) ∙ sym is

  below_is : (x : K) (es : List (K × X)) → AllByRecursion (λ y. R x y ≡ Less) (map (λ e. e.0) es) → T (below_all R x es)
  below_is x [] h = tt
  below_is x (e ∷ es) h = both _ _ (subst (λ r. T (is_lt r)) (sym h.0) tt) (below_is x es h.1)

  -- std's maps are in order
  pub in_order : (es : List (K × X)) → IsStrictlySortedBy R (map (λ e. e.0) es) → T (is_sorted R es)
  unfolding IsStrictlySortedBy
  in_order [] h = tt
  in_order (e ∷ es) h = both _ _ (below_is e.0 es h.0) (in_order es h.1)

  -- one key has this value, or none, and the others are as they were
  pub record Written (old new : List (K × X)) (key : K) (w : Option X) : Type 0 where
    pub here : find R key new ≡ w
    pub others : (k : K) → is_eq (R key k) ≡ false → find R k new ≡ find R k old

  pub updated : (old new : BTreeMap K X) (key : K) (w : Option X) → UpdatesBy R (R key) old new w → Written old.entries new.entries key w
  updated old new key w updates = record {
    here = found new key w (sym updates.1);
    others = λ k apart. found new k (get_by (R k) old) (sym (updates.2 k apart)) ∙ sym (found old k (get_by (R k) old) refl);
  }

  pub through : (old new : BTreeMap K X) (key : K) (v w : X) → Some v ≡ get_by (R key) old → WritesThrough R (R key) old w new → Written old.entries new.entries key (Some w)
  through old new key v w there writes = updated old new key (Some w) (writes.3 (subst IsSome there refl))

pub is_copied : {X : Type 0} (o : Option (Bor X)) → is_some o ≡ is_some (option_copied o)
is_copied None = refl
is_copied (Some x) = refl

pub int_exact : (a b : ℤ) → is_eq (int_cmp a b) ≡ true → a ≡ b
int_exact a b one = (signed_Decides a b).0 one

pub nat_exact : (a b : ℕ) → is_eq (nat_cmp a b) ≡ true → a ≡ b
nat_exact a b one = eqb-true a b (sym (unsigned_tied a b) ∙ one)

pub name_exact : (a b : List ℕ) → is_eq (name_cmp a b) ≡ true → a ≡ b
name_exact a b one = (bytes_decides a b).0 (texts_ties a b ∙ one)

-- what is found after a key has a value, where only the same key ties with it
module _ {K X : Type 0} (R : K → K → Ordering) (exact : (a b : K) → is_eq (R a b) ≡ true → a ≡ b) (old new : List (K × X)) (key : K) (w : Option X) (is : Written R old new key w) where
  pub at_key : (q : K) → is_eq (R key q) ≡ true → find R q new ≡ w
  at_key q one = ap (λ k. find R k new) (sym (exact key q one)) ∙ is.here

  was_key : (q : K) → is_eq (R key q) ≡ true → find R q old ≡ find R key old
  was_key q one = ap (λ k. find R k old) (sym (exact key q one))

  -- what holds of what is found, where it goes on to hold of what was written
  pub carried : (Q : Option X → Type 0) → (Q (find R key old) → Q w) → (q : K) → Q (find R q old) → Q (find R q new)
  carried Q on q was = known (is_eq (R key q))
      (λ one. subst Q (sym (at_key q one)) (on (subst Q (was_key q one) was)))
      (λ two. subst Q (sym (is.others q two)) was)

  -- a value that the write leaves
  pub left_alike : {Y : Type 0} (f : Option X → Y) → f w ≡ f (find R key old) → (q : K) → f (find R q new) ≡ f (find R q old)
  left_alike f same q = known (is_eq (R key q))
      (λ one. ap f (at_key q one) ∙ same ∙ ap f (sym (was_key q one)))
      (λ two. ap f (is.others q two))

  -- a test that the write makes true
  pub made_true : (f : Option X → Bool) → f w ≡ true → (q : K) → f (find R q new) ≡ (is_eq (R key q) || f (find R q old))
  made_true f is_true q = known (is_eq (R key q))
      (λ one. ap f (at_key q one) ∙ is_true ∙ sym (ap (λ b. b || f (find R q old)) one))
      (λ two. ap f (is.others q two) ∙ sym (ap (λ b. b || f (find R q old)) two))
