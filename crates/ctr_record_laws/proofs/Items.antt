-- The items of the secondary log, with one more or one less.
use Rattle.std.proofs.Common.{◌≡◌, ◌⊎◌, ⊎_elim, inl, inr, ℕ, ◌+◌, Bool, true, false, cond, List, [], ◌∷◌, ◌++◌, refl, sym, ◌∙◌, ap, subst, arith}
use Rattle.std.proofs.lemmas.Bool.{false≢true}
use Rattle.std.proofs.lemmas.List.{append-nil}
use Rattle.std.specs.List.{list_any, flat_map}
use Rattle.std.specs.Prelude.{◌||◌}
use Rattle.ctr_area.specs.Sound.{IsAmong, how_many, page_of_item}
use Rattle.ctr_area.specs.meta_Items.{is_wanted, left_out}
use Rattle.ctr_area.specs.meta_Wanted.{Wanted}
use Rattle.ctr_record_laws.proofs.Members.{count_append, bit}
use Rattle.ctr_area.specs.rec_SlogItem.{SlogItem}
use Rattle.ctr_area.proofs.ctr_versions.Keys.{known}

-- ---- members

pub with_one : {A : Type 0} (z i : A) (front rest : List A) → IsAmong z (front ++ rest) → IsAmong z (front ++ i ∷ rest)
with_one z i [] rest in_ = inr in_
with_one z i (a ∷ front) rest (inl is) = inl is
with_one z i (a ∷ front) rest (inr in_) = inr (with_one z i front rest in_)

pub or_the_one : {A : Type 0} (z i : A) (front rest : List A) → IsAmong z (front ++ i ∷ rest) → (z ≡ i) ⊎ IsAmong z (front ++ rest)
or_the_one z i [] rest (inl is) = inl is
or_the_one z i [] rest (inr in_) = inr in_
or_the_one z i (a ∷ front) rest (inl is) = inr (inl is)
or_the_one z i (a ∷ front) rest (inr in_) = ⊎_elim (λ is. inl is) (λ there. inr (inr there)) (or_the_one z i front rest in_)

pub the_one : {A : Type 0} (i : A) (front rest : List A) → IsAmong i (front ++ i ∷ rest)
the_one i [] rest = inl refl
the_one i (a ∷ front) rest = inr (the_one i front rest)

-- ---- counts

-- the counts of a list with one more
pub count_with : {A : Type 0} (test : A → Bool) (i : A) (front rest : List A) → how_many test (front ++ i ∷ rest) ≡ how_many test (front ++ rest) + bit (test i)
count_with test i [] rest = omega arith
count_with test i (a ∷ front) rest = turned (bit (test a)) (how_many test (front ++ i ∷ rest)) (how_many test (front ++ rest)) (bit (test i)) (count_with test i front rest)
  where
    turned : (a b c d : ℕ) → b ≡ c + d → a + b ≡ (a + c) + d
    turned a b c d is = omega (arith, is)

-- the pages of items with one more
pub pages_with : (test : ℕ → Bool) (i : SlogItem) (front rest : List SlogItem)
    → how_many test (flat_map page_of_item (front ++ i ∷ rest)) ≡ how_many test (flat_map page_of_item (front ++ rest)) + how_many test (page_of_item i)
pages_with test i [] rest = count_append test (page_of_item i) (flat_map page_of_item rest) ∙ turned (how_many test (page_of_item i)) (how_many test (flat_map page_of_item rest))
  where
    turned : (a b : ℕ) → a + b ≡ b + a
    turned a b = omega arith
pages_with test i (a ∷ front) rest =
    count_append test (page_of_item a) (flat_map page_of_item (front ++ i ∷ rest))
    ∙ turned (how_many test (page_of_item a)) (how_many test (flat_map page_of_item (front ++ i ∷ rest))) (how_many test (flat_map page_of_item (front ++ rest))) (how_many test (page_of_item i))
    (how_many test (flat_map page_of_item (a ∷ (front ++ rest)))) (pages_with test i front rest) (count_append test (page_of_item a) (flat_map page_of_item (front ++ rest)))
  where
    turned : (a b c d e : ℕ) → b ≡ c + d → e ≡ a + c → a + b ≡ e + d
    turned a b c d e is one = omega (arith, is, one)

-- ---- the earliest that is wanted

-- a list is another one with one item more
pub record IsWithOne (i : SlogItem) (less more : List SlogItem) : Type 0 where
  pub front : List SlogItem
  pub rest : List SlogItem
  pub less_is : less ≡ front ++ rest
  pub more_is : more ≡ front ++ i ∷ rest

pub added : (i : SlogItem) (items : List SlogItem) → IsWithOne i items (items ++ i ∷ [])
added i items = record { front = items; rest = []; less_is = sym (append-nil items); more_is = refl }

pub taken_out : (w : Wanted) (items : List SlogItem) → list_any (is_wanted w) items ≡ true → (i : SlogItem) × (is_wanted w i ≡ true) × IsWithOne i (left_out w items) items
taken_out w [] there = absurd (false≢true there)
taken_out w (a ∷ items) there = known (is_wanted w a)
    (λ is. (a, is, record { front = []; rest = items; less_is = ap (λ b. cond b items (a ∷ left_out w items)) is; more_is = refl }))
    (λ isnt. let further = taken_out w items (sym (ap (λ b. b || list_any (is_wanted w) items) isnt) ∙ there) in
    let one = further.2 in (
      further.0,
      further.1,
      record {
        front = a ∷ one.front;
        rest = one.rest;
        less_is = ap (λ b. cond b items (a ∷ left_out w items)) isnt ∙ ap (λ l. a ∷ l) one.less_is;
        more_is = ap (λ l. a ∷ l) one.more_is;
      },
    ))

-- ---- members, with one more and with one less

pub up_one : (i : SlogItem) (less more : List SlogItem) → IsWithOne i less more → (z : SlogItem) → IsAmong z less → IsAmong z more
up_one i less more one z in_ = subst (IsAmong z) (sym one.more_is) (with_one z i one.front one.rest (subst (IsAmong z) one.less_is in_))

pub down_one : (i : SlogItem) (less more : List SlogItem) → IsWithOne i less more → (z : SlogItem) → IsAmong z more → (z ≡ i) ⊎ IsAmong z less
down_one i less more one z in_ = ⊎_elim (λ is. inl is) (λ there. inr (subst (IsAmong z) (sym one.less_is) there)) (or_the_one z i one.front one.rest (subst (IsAmong z) one.more_is in_))

pub count_one : (test : SlogItem → Bool) (i : SlogItem) (less more : List SlogItem) → IsWithOne i less more → how_many test more ≡ how_many test less + bit (test i)
count_one test i less more one = ap (how_many test) one.more_is ∙ count_with test i one.front one.rest ∙ ap (λ l. how_many test l + bit (test i)) (sym one.less_is)

pub it_is_in : (i : SlogItem) (less more : List SlogItem) → IsWithOne i less more → IsAmong i more
it_is_in i less more one = subst (IsAmong i) (sym one.more_is) (the_one i one.front one.rest)

-- one that is wanted is there
pub any_there : (w : Wanted) (i : SlogItem) (items : List SlogItem) → is_wanted w i ≡ true → IsAmong i items → list_any (is_wanted w) items ≡ true
any_there w i [] is in_ = absurd in_
any_there w i (a ∷ items) is (inl here) = ap (λ b. b || list_any (is_wanted w) items) (ap (is_wanted w) (sym here) ∙ is)
any_there w i (a ∷ items) is (inr there) = ap (λ b. is_wanted w a || b) (any_there w i items is there) ∙ either (is_wanted w a)
  where
    either : (b : Bool) → (b || true) ≡ true
    either true = refl
    either false = refl
