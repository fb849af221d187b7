-- The catalog stays as it is said to be, where an item comes or goes that is of no entry.
use Rattle.std.proofs.Common.{◌≡◌, ◌⊎◌, ⊎_elim, inl, inr, ℕ, ◌+◌, ◌≤◌, zero, suc, Bool, true, false, cond, List, [], ◌∷◌, ◌++◌, drop, refl, sym, ◌∙◌, ap, subst, arith}
use Rattle.std.specs.List.{filter}
use Rattle.ctr_area.specs.Areas.{Title}
use Rattle.ctr_area.specs.Sound.{IsAmong, how_many, AreNamed, IsOneOf, IsSchemaItem, all_undone, undone, stands_for, is_creation, is_dropping}
use Rattle.ctr_area.specs.meta_Items.{is_item_by}
use Rattle.ctr_record_laws.proofs.Members.{bit}
use Rattle.ctr_area.specs.rec_SlogItem.{SlogItem}
use Rattle.ctr_area.specs.rec_SlogItem.TheVariants.{AllocOf, FreeOf, CreateOf, DropOf}
use Rattle.ctr_record_laws.proofs.Items.{with_one, or_the_one, count_with, IsWithOne}
use Rattle.ctr_area.proofs.ctr_versions.Keys.{known}

-- an item of no entry of the catalog
pub record IsOfPage (i : SlogItem) : Type 0 where
  pub undone_same : (title : ℕ → Title) → undone i title ≡ title
  pub no_create : (x e : ℕ) → CreateOf x e ≡ i → ⊥
  pub no_drop : (x e : ℕ) → DropOf x e ≡ i → ⊥
  pub no_creation : (e : ℕ) → is_creation e i ≡ false
  pub no_dropping : (e : ℕ) → is_dropping e i ≡ false

-- which kind of item it is
abbrev pub kind_of_item : SlogItem → ℕ
kind_of_item (AllocOf x p) = 1
kind_of_item (FreeOf p) = 2
kind_of_item (CreateOf x e) = 3
kind_of_item (DropOf x e) = 4

three_four : (n : ℕ) → n ≡ 1 ⊎ n ≡ 2 → 3 ≡ n ⊎ 4 ≡ n → ⊥
three_four n (inl a) (inl b) = omega (arith, a, b)
three_four n (inl a) (inr b) = omega (arith, a, b)
three_four n (inr a) (inl b) = omega (arith, a, b)
three_four n (inr a) (inr b) = omega (arith, a, b)

pub alloc_of_page : (x p : ℕ) → IsOfPage (AllocOf x p)
alloc_of_page x p = record {
  undone_same = λ title. refl;
  no_create = λ y e is. three_four 1 (inl refl) (inl (ap kind_of_item is));
  no_drop = λ y e is. three_four 1 (inl refl) (inr (ap kind_of_item is));
  no_creation = λ e. refl;
  no_dropping = λ e. refl;
}

pub free_of_page : (p : ℕ) → IsOfPage (FreeOf p)
free_of_page p = record {
  undone_same = λ title. refl;
  no_create = λ y e is. three_four 2 (inr refl) (inl (ap kind_of_item is));
  no_drop = λ y e is. three_four 2 (inr refl) (inr (ap kind_of_item is));
  no_creation = λ e. refl;
  no_dropping = λ e. refl;
}

-- ---- lists that are cut in two

abbrev tail_of : {A : Type 0} → List A → List A
tail_of [] = []
tail_of (x ∷ xs) = xs

abbrev head_or : {A : Type 0} → A → List A → A
head_or d [] = d
head_or d (x ∷ xs) = x

pub head_same : {A : Type 0} (x y : A) (xs ys : List A) → x ∷ xs ≡ y ∷ ys → x ≡ y
head_same x y xs ys is = ap (head_or x) is

pub tail_same : {A : Type 0} (x y : A) (xs ys : List A) → x ∷ xs ≡ y ∷ ys → xs ≡ ys
tail_same x y xs ys is = ap tail_of is

-- where the longer list is cut at another member, the shorter one can be
cut_without : {A : Type 0} (i c : A) (front rest f r : List A) → (c ≡ i → ⊥) → front ++ i ∷ rest ≡ f ++ c ∷ r
    → (g : List A) × (s : List A) × (front ++ rest ≡ g ++ c ∷ s) × ((z : A) → (z ≡ i → ⊥) → IsAmong z f → IsAmong z g)
cut_without i c [] rest [] r apart is = absurd (apart (sym (head_same i c rest r is)))
cut_without i c [] rest (j ∷ f) r apart is =
    (f, r, tail_same i j rest (f ++ c ∷ r) is, λ z other in_. ⊎_elim (λ here. absurd (other (here ∙ sym (head_same i j rest (f ++ c ∷ r) is)))) (λ there. there) in_)
cut_without i c (a ∷ front) rest [] r apart is =
    ([], front ++ rest, ap (λ x. x ∷ (front ++ rest)) (head_same a c (front ++ i ∷ rest) r is), λ z other in_. in_)
cut_without i c (a ∷ front) rest (j ∷ f) r apart is =
    let further = cut_without i c front rest f r apart (tail_same a j (front ++ i ∷ rest) (f ++ c ∷ r) is) in
    (j ∷ further.0, further.1, (λ k. head_same a j (front ++ i ∷ rest) (f ++ c ∷ r) is k ∷ further.2 k), λ z other in_. ⊎_elim (λ here. inl here) (λ there. inr (further.3 z other there)) in_)

-- and the other way
pub cut_with : {A : Type 0} (i c : A) (front rest f r : List A) → front ++ rest ≡ f ++ c ∷ r
    → (g : List A) × (s : List A) × (front ++ i ∷ rest ≡ g ++ c ∷ s) × ((z : A) → IsAmong z f → IsAmong z g)
cut_with i c [] rest f r is = (i ∷ f, r, ap (λ l. i ∷ l) is, λ z in_. inr in_)
cut_with i c (a ∷ front) rest [] r is = ([], front ++ i ∷ rest, ap (λ x. x ∷ (front ++ i ∷ rest)) (head_same a c (front ++ rest) r is), λ z in_. in_)
cut_with i c (a ∷ front) rest (j ∷ f) r is =
    let further = cut_with i c front rest f r (tail_same a j (front ++ rest) (f ++ c ∷ r) is) in
    (j ∷ further.0, further.1, (λ k. head_same a j (front ++ rest) (f ++ c ∷ r) is k ∷ further.2 k), λ z in_. ⊎_elim (λ here. inl here) (λ there. inr (further.3 z there)) in_)

-- ---- what is undone

module _ (i : SlogItem) (plain : (title : ℕ → Title) → undone i title ≡ title) (title : ℕ → Title) where
  undone_through : (front rest : List SlogItem) → all_undone (front ++ i ∷ rest) title ≡ all_undone (front ++ rest) title
  undone_through [] rest = plain (all_undone rest title)
  undone_through (a ∷ front) rest = ap (undone a) (undone_through front rest)

  undone_without : (k : ℕ) (front rest : List SlogItem) → (m : ℕ) × (all_undone (drop k (front ++ i ∷ rest)) title ≡ all_undone (drop m (front ++ rest)) title)
  undone_without zero front rest = (0, undone_through front rest)
  undone_without (suc k) [] rest = (k, refl)
  undone_without (suc k) (a ∷ front) rest = let further = undone_without k front rest in (suc further.0, further.1)

  undone_with : (k : ℕ) (front rest : List SlogItem) → (m : ℕ) × (all_undone (drop k (front ++ rest)) title ≡ all_undone (drop m (front ++ i ∷ rest)) title)
  undone_with zero front rest = (0, sym (undone_through front rest))
  undone_with (suc k) [] rest = (suc (suc k), refl)
  undone_with (suc k) (a ∷ front) rest = let further = undone_with k front rest in (suc further.0, further.1)

  -- those of one transaction
  filter_with : (test : SlogItem → Bool) (front rest : List SlogItem) → filter test (front ++ i ∷ rest) ≡ cond (test i) (filter test front ++ i ∷ filter test rest) (filter test (front ++ rest))
  filter_with test [] rest = refl
  filter_with test (a ∷ front) rest =
      let further = filter_with test front rest in
      elim (test a) as (λ b. cond b (a ∷ filter test (front ++ i ∷ rest)) (filter test (front ++ i ∷ rest))
      ≡ cond (test i) (cond b (a ∷ filter test front) (filter test front) ++ i ∷ filter test rest) (cond b (a ∷ filter test (front ++ rest)) (filter test (front ++ rest)))) [
        | true ↦ ap (λ l. a ∷ l) further ∙ elim (test i) as (λ b. a ∷ cond b (filter test front ++ i ∷ filter test rest) (filter test (front ++ rest)) ≡ cond b (a ∷ (filter test front ++ i ∷ filter test rest)) (a ∷ filter test (front ++ rest))) [ true ↦ refl | false ↦ refl ]
        | false ↦ further
      ]

  filter_both : (test : SlogItem → Bool) (front rest : List SlogItem) → filter test (front ++ rest) ≡ filter test front ++ filter test rest
  filter_both test [] rest = refl
  filter_both test (a ∷ front) rest =
      let further = filter_both test front rest in
      elim (test a) as (λ b. cond b (a ∷ filter test (front ++ rest)) (filter test (front ++ rest)) ≡ cond b (a ∷ filter test front) (filter test front) ++ filter test rest) [ true ↦ ap (λ l. a ∷ l) further | false ↦ further ]

  pub by_without : (test : SlogItem → Bool) (k : ℕ) (front rest : List SlogItem)
      → (m : ℕ) × (all_undone (drop k (filter test (front ++ i ∷ rest))) title ≡ all_undone (drop m (filter test (front ++ rest))) title)
  by_without test k front rest = known (test i)
      (λ is. let further = undone_without k (filter test front) (filter test rest) in (
        further.0,
        ap (λ l. all_undone (drop k l) title) (filter_with test front rest ∙ ap (λ b. cond b (filter test front ++ i ∷ filter test rest) (filter test (front ++ rest))) is)
            ∙ further.1 ∙ ap (λ l. all_undone (drop further.0 l) title) (sym (filter_both test front rest)),
      ))
      (λ isnt. (k, ap (λ l. all_undone (drop k l) title) (filter_with test front rest ∙ ap (λ b. cond b (filter test front ++ i ∷ filter test rest) (filter test (front ++ rest))) isnt)))

  pub by_with : (test : SlogItem → Bool) (k : ℕ) (front rest : List SlogItem)
      → (m : ℕ) × (all_undone (drop k (filter test (front ++ rest))) title ≡ all_undone (drop m (filter test (front ++ i ∷ rest))) title)
  by_with test k front rest = known (test i)
      (λ is. let further = undone_with k (filter test front) (filter test rest) in (
        further.0,
        ap (λ l. all_undone (drop k l) title) (filter_both test front rest) ∙ further.1
            ∙ ap (λ l. all_undone (drop further.0 l) title) (sym (filter_with test front rest ∙ ap (λ b. cond b (filter test front ++ i ∷ filter test rest) (filter test (front ++ rest))) is)),
      ))
      (λ isnt. (k, ap (λ l. all_undone (drop k l) title) (sym (filter_with test front rest ∙ ap (λ b. cond b (filter test front ++ i ∷ filter test rest) (filter test (front ++ rest))) isnt))))

-- ---- the part itself

-- what another list of items needs, so that the catalog is said to be the same
pub record SayTheSame (title : ℕ → Title) (old new : List SlogItem) : Type 0 where
  pub creates : (x e : ℕ) → IsAmong (CreateOf x e) old → IsAmong (CreateOf x e) new
  pub drops : (x e : ℕ) → IsAmong (DropOf x e) old → IsAmong (DropOf x e) new
  pub creates_back : (x e : ℕ) → IsAmong (CreateOf x e) new → IsAmong (CreateOf x e) old
  pub drops_back : (x e : ℕ) → IsAmong (DropOf x e) new → IsAmong (DropOf x e) old
  pub creations : (e : ℕ) → how_many (is_creation e) new ≡ how_many (is_creation e) old
  pub droppings : (e : ℕ) → how_many (is_dropping e) new ≡ how_many (is_dropping e) old
  pub cuts : (x e : ℕ) (f r : List SlogItem) → new ≡ f ++ CreateOf x e ∷ r
      → (g : List SlogItem) × (s : List SlogItem) × (old ≡ g ++ CreateOf x e ∷ s) × ((y d : ℕ) → IsAmong (DropOf y d) f → IsAmong (DropOf y d) g)
  pub undoing : (x k : ℕ) → (m : ℕ) × (all_undone (drop k (filter (is_item_by x) new)) title ≡ all_undone (drop m (filter (is_item_by x) old)) title)

pub named_same : (committed : ℕ → Bool) (live : List ℕ) (title : ℕ → Title) (old new : List SlogItem) → SayTheSame title old new → AreNamed committed live old title → AreNamed committed live new title
named_same committed live title old new same_ names = record {
  creators = λ e lt is. ⊎_elim (λ c. inl c) (λ open_. inr (open_.0, same_.creates (title e).creator e open_.1)) (names.creators e lt is);
  droppers = λ e lt is. ⊎_elim (λ z. inl z) (λ more. inr (⊎_elim (λ c. inl c) (λ open_. inr (open_.0, same_.drops (title e).dropper e open_.1)) more)) (names.droppers e lt is);
  creates = λ x e in_. names.creates x e (same_.creates_back x e in_);
  drops = λ x e in_. names.drops x e (same_.drops_back x e in_);
  once = λ e. let was = names.once e in (subst (λ n. n ≤ 1) (sym (same_.creations e)) was.0, subst (λ n. n ≤ 1) (sym (same_.droppings e)) was.1);
  in_order = λ front rest x y e is in_. let cut_ = same_.cuts x e front rest is in names.in_order cut_.0 cut_.1 x y e cut_.2 (cut_.3 y e in_);
  of_one = λ x y e f one two. names.of_one x y e f (back x e one) (back y f two);
  undoing = λ x k in_. let other = same_.undoing x k in subst (λ titles. IsOneOf titles (stands_for committed x)) (sym other.1) (names.undoing x other.0 in_);
  standing = names.standing;
}
  where
    back : (x e : ℕ) → IsSchemaItem x e new → IsSchemaItem x e old
    back x e (inl in_) = inl (same_.creates_back x e in_)
    back x e (inr in_) = inr (same_.drops_back x e in_)

module _ (title : ℕ → Title) (i : SlogItem) (less more : List SlogItem) (one : IsWithOne i less more) (page : IsOfPage i) where
  abbrev shorter : List SlogItem
  shorter = one.front ++ one.rest

  abbrev longer : List SlogItem
  longer = one.front ++ i ∷ one.rest

  up : (z : SlogItem) → IsAmong z less → IsAmong z more
  up z in_ = subst (IsAmong z) (sym one.more_is) (with_one z i one.front one.rest (subst (IsAmong z) one.less_is in_))

  down : (z : SlogItem) → (z ≡ i → ⊥) → IsAmong z more → IsAmong z less
  down z apart in_ = subst (IsAmong z) (sym one.less_is) (⊎_elim (λ is. absurd (apart is)) (λ there. there) (or_the_one z i one.front one.rest (subst (IsAmong z) one.more_is in_)))

  same_count : (test : SlogItem → Bool) → test i ≡ false → how_many test more ≡ how_many test less
  same_count test isnt = ap (how_many test) one.more_is ∙ count_with test i one.front one.rest ∙ ap (λ b. how_many test shorter + bit b) isnt ∙ plain (how_many test shorter) ∙ ap (how_many test) (sym one.less_is)
    where
      plain : (n : ℕ) → n + 0 ≡ n
      plain n = omega arith

  pub longer_same : SayTheSame title less more
  longer_same = record {
    creates = λ x e in_. up (CreateOf x e) in_;
    drops = λ x e in_. up (DropOf x e) in_;
    creates_back = λ x e in_. down (CreateOf x e) (page.no_create x e) in_;
    drops_back = λ x e in_. down (DropOf x e) (page.no_drop x e) in_;
    creations = λ e. same_count (is_creation e) (page.no_creation e);
    droppings = λ e. same_count (is_dropping e) (page.no_dropping e);
    cuts = λ x e f r is. let cut_ = cut_without i (CreateOf x e) one.front one.rest f r (page.no_create x e) (sym one.more_is ∙ is) in
        (cut_.0, cut_.1, one.less_is ∙ cut_.2, λ y d in_. cut_.3 (DropOf y d) (page.no_drop y d) in_);
    undoing = λ x k. let by = by_without i page.undone_same title (is_item_by x) k one.front one.rest in
        (by.0, ap (λ l. all_undone (drop k (filter (is_item_by x) l)) title) one.more_is ∙ by.1 ∙ ap (λ l. all_undone (drop by.0 (filter (is_item_by x) l)) title) (sym one.less_is));
  }

  pub shorter_same : SayTheSame title more less
  shorter_same = record {
    creates = λ x e in_. down (CreateOf x e) (page.no_create x e) in_;
    drops = λ x e in_. down (DropOf x e) (page.no_drop x e) in_;
    creates_back = λ x e in_. up (CreateOf x e) in_;
    drops_back = λ x e in_. up (DropOf x e) in_;
    creations = λ e. sym (same_count (is_creation e) (page.no_creation e));
    droppings = λ e. sym (same_count (is_dropping e) (page.no_dropping e));
    cuts = λ x e f r is. let cut_ = cut_with i (CreateOf x e) one.front one.rest f r (sym one.less_is ∙ is) in
        (cut_.0, cut_.1, one.more_is ∙ cut_.2, λ y d in_. cut_.3 (DropOf y d) in_);
    undoing = λ x k. let by = by_with i page.undone_same title (is_item_by x) k one.front one.rest in
        (by.0, ap (λ l. all_undone (drop k (filter (is_item_by x) l)) title) one.less_is ∙ by.1 ∙ ap (λ l. all_undone (drop by.0 (filter (is_item_by x) l)) title) (sym one.more_is));
  }

  pub items_up : (z : SlogItem) → IsAmong z less → IsAmong z more
  items_up = up

  pub items_down : (z : SlogItem) → (z ≡ i → ⊥) → IsAmong z more → IsAmong z less
  items_down = down
