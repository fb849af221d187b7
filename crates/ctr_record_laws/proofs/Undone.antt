-- What is left of titles where items are undone.
use Rattle.std.proofs.Common.{◌≡◌, ◌⊎◌, ⊎_elim, inl, inr, ℕ, ◌+◌, ◌<◌, ◌≤◌, zero, suc, Bool, true, false, cond, List, [], ◌∷◌, ◌++◌, drop, length, refl, sym, ◌∙◌, ap, subst, arith}
use Rattle.std.proofs.lemmas.Bool.{eqb-true, ne_eqb}
use Rattle.std.specs.List.{filter}
use Rattle.std.specs.Prelude.{◌==◌}
use Rattle.ctr_area.specs.Areas.{Title}
use Rattle.ctr_area.specs.Images.{is_live}
use Rattle.ctr_area.specs.Sound.{IsAmong, how_many, IsOneOf, all_undone, undone}
use Rattle.ctr_record_laws.proofs.Members.{bit}
use Rattle.ctr_area.specs.rec_SlogItem.{SlogItem}
use Rattle.ctr_area.specs.rec_SlogItem.TheVariants.{AllocOf, FreeOf, CreateOf, DropOf}
use Rattle.ctr_record_laws.proofs.Items.{the_one}
use Rattle.ctr_record_laws.proofs.Links.{none_pass}
use Rattle.ctr_record_laws.proofs.Named.{head_same, tail_same}
use Rattle.ctr_area.proofs.ctr_versions.Keys.{known}

-- one entry is changed by a function of it
at_one : (g : Title → Title) (t u : ℕ → Title) (f e : ℕ) → t f ≡ u f → cond (f == e) (g (t e)) (t f) ≡ cond (f == e) (g (u e)) (u f)
at_one g t u f e same_ = known (f == e)
    (λ is. ap (λ b. cond b (g (t e)) (t f)) is ∙ ap g (ap t (sym (eqb-true f e is)) ∙ same_ ∙ ap u (eqb-true f e is)) ∙ sym (ap (λ b. cond b (g (u e)) (u f)) is))
    (λ isnt. ap (λ b. cond b (g (t e)) (t f)) isnt ∙ same_ ∙ sym (ap (λ b. cond b (g (u e)) (u f)) isnt))

-- an entry's title depends on its own alone
pub undone_at : (is : List SlogItem) (t u : ℕ → Title) (f : ℕ) → t f ≡ u f → all_undone is t f ≡ all_undone is u f
undone_at [] t u f same_ = same_
undone_at (AllocOf x p ∷ is) t u f same_ = undone_at is t u f same_
undone_at (FreeOf p ∷ is) t u f same_ = undone_at is t u f same_
undone_at (CreateOf x e ∷ is) t u f same_ = at_one (λ (v : Title). record v { state = 2 }) (all_undone is t) (all_undone is u) f e (undone_at is t u f same_)
undone_at (DropOf x e ∷ is) t u f same_ = at_one (λ (v : Title). record v { dropper = 0 }) (all_undone is t) (all_undone is u) f e (undone_at is t u f same_)

-- no item of an entry leaves it as it is
pub undone_apart : (is : List SlogItem) (t : ℕ → Title) (f : ℕ) → ((x : ℕ) → IsAmong (CreateOf x f) is → ⊥) → ((x : ℕ) → IsAmong (DropOf x f) is → ⊥) → all_undone is t f ≡ t f
undone_apart [] t f creates drops = refl
undone_apart (AllocOf x p ∷ is) t f creates drops = undone_apart is t f (λ y in_. creates y (inr in_)) (λ y in_. drops y (inr in_))
undone_apart (FreeOf p ∷ is) t f creates drops = undone_apart is t f (λ y in_. creates y (inr in_)) (λ y in_. drops y (inr in_))
undone_apart (CreateOf x e ∷ is) t f creates drops =
    ap (λ b. cond b (record (all_undone is t e) { state = 2 }) (all_undone is t f)) (ne_eqb f e (λ same_. creates x (inl (λ i. CreateOf x (same_ i)))))
    ∙ undone_apart is t f (λ y in_. creates y (inr in_)) (λ y in_. drops y (inr in_))
undone_apart (DropOf x e ∷ is) t f creates drops =
    ap (λ b. cond b (record (all_undone is t e) { dropper = 0 }) (all_undone is t f)) (ne_eqb f e (λ same_. drops x (inl (λ i. DropOf x (same_ i)))))
    ∙ undone_apart is t f (λ y in_. creates y (inr in_)) (λ y in_. drops y (inr in_))

-- one that isn't live never is
pub undone_dead : (is : List SlogItem) (t : ℕ → Title) (f : ℕ) → is_live (t f) ≡ false → is_live (all_undone is t f) ≡ false
undone_dead [] t f dead = dead
undone_dead (AllocOf x p ∷ is) t f dead = undone_dead is t f dead
undone_dead (FreeOf p ∷ is) t f dead = undone_dead is t f dead
undone_dead (CreateOf x e ∷ is) t f dead = known (f == e)
    (λ same_. ap (λ b. is_live (cond b (record (all_undone is t e) { state = 2 }) (all_undone is t f))) same_)
    (λ apart. ap (λ b. is_live (cond b (record (all_undone is t e) { state = 2 }) (all_undone is t f))) apart ∙ undone_dead is t f dead)
undone_dead (DropOf x e ∷ is) t f dead = known (f == e)
    (λ same_. ap (λ b. is_live (cond b (record (all_undone is t e) { dropper = 0 }) (all_undone is t f))) same_ ∙ ap (λ f. is_live (all_undone is t f)) (sym (eqb-true f e same_)) ∙ undone_dead is t f dead)
    (λ apart. ap (λ b. is_live (cond b (record (all_undone is t e) { dropper = 0 }) (all_undone is t f))) apart ∙ undone_dead is t f dead)

-- the last is undone first
pub undone_last : (is : List SlogItem) (i : SlogItem) (t : ℕ → Title) → all_undone (is ++ i ∷ []) t ≡ all_undone is (undone i t)
undone_last [] i t = refl
undone_last (a ∷ is) i t = ap (undone a) (undone_last is i t)

-- at most one stands, where each that stands stood
pub one_of_from : (old new : ℕ → Title) (was is : Title → Bool) → IsOneOf old was
    → ((f : ℕ) → f < 32 → is_live (new f) ≡ true → is (new f) ≡ true → (is_live (old f) ≡ true) × ((new f).name ≡ (old f).name) × (was (old f) ≡ true)) → IsOneOf new is
one_of_from old new was is one each e f lt_e lt_f live_e live_f same_ counts_e counts_f =
    let a = each e lt_e live_e counts_e in
    let b = each f lt_f live_f counts_f in
    one e f lt_e lt_f a.0 b.0 (sym a.1 ∙ same_ ∙ b.1) a.2 b.2

-- ---- lists of one transaction's items

pub filter_apart : (test : SlogItem → Bool) (i : SlogItem) (front rest : List SlogItem) → test i ≡ false → filter test (front ++ i ∷ rest) ≡ filter test (front ++ rest)
filter_apart test i [] rest isnt = ap (λ b. cond b (i ∷ filter test rest) (filter test rest)) isnt
filter_apart test i (a ∷ front) rest isnt = ap (λ l. cond (test a) (a ∷ l) l) (filter_apart test i front rest isnt)

pub filter_there : (test : SlogItem → Bool) (i : SlogItem) (front rest : List SlogItem) → test i ≡ true → filter test (front ++ i ∷ rest) ≡ filter test front ++ i ∷ filter test rest
filter_there test i [] rest is = ap (λ b. cond b (i ∷ filter test rest) (filter test rest)) is
filter_there test i (a ∷ front) rest is =
    let further = filter_there test i front rest is in
    elim (test a) as (λ b. cond b (a ∷ filter test (front ++ i ∷ rest)) (filter test (front ++ i ∷ rest)) ≡ cond b (a ∷ filter test front) (filter test front) ++ i ∷ filter test rest) [ true ↦ ap (λ l. a ∷ l) further | false ↦ further ]

pub filter_append : (test : SlogItem → Bool) (front rest : List SlogItem) → filter test (front ++ rest) ≡ filter test front ++ filter test rest
filter_append test [] rest = refl
filter_append test (a ∷ front) rest =
    let further = filter_append test front rest in
    elim (test a) as (λ b. cond b (a ∷ filter test (front ++ rest)) (filter test (front ++ rest)) ≡ cond b (a ∷ filter test front) (filter test front) ++ filter test rest) [ true ↦ ap (λ l. a ∷ l) further | false ↦ further ]

pub filter_among : (test : SlogItem → Bool) (z : SlogItem) (items : List SlogItem) → IsAmong z (filter test items) → IsAmong z items × (test z ≡ true)
filter_among test z [] in_ = absurd in_
filter_among test z (a ∷ items) in_ = known (test a)
    (λ is. ⊎_elim (λ here. (inl here, ap test here ∙ is)) (λ there. let further = filter_among test z items there in (inr further.0, further.1)) (subst (IsAmong z) (ap (λ b. cond b (a ∷ filter test items) (filter test items)) is) in_))
    (λ isnt. let further = filter_among test z items (subst (IsAmong z) (ap (λ b. cond b (a ∷ filter test items) (filter test items)) isnt) in_) in (inr further.0, further.1))

pub among_filter : (test : SlogItem → Bool) (z : SlogItem) (items : List SlogItem) → test z ≡ true → IsAmong z items → IsAmong z (filter test items)
among_filter test z [] is in_ = absurd in_
among_filter test z (a ∷ items) is (inl here) = subst (IsAmong z) (sym (ap (λ b. cond b (a ∷ filter test items) (filter test items)) (ap test (sym here) ∙ is))) (inl here)
among_filter test z (a ∷ items) is (inr there) =
    let further = among_filter test z items is there in
    elim (test a) as (λ b. IsAmong z (cond b (a ∷ filter test items) (filter test items))) [ true ↦ inr further | false ↦ further ]

pub drop_among : {A : Type 0} (z : A) (k : ℕ) (xs : List A) → IsAmong z (drop k xs) → IsAmong z xs
drop_among z zero xs in_ = in_
drop_among z (suc k) [] in_ = in_
drop_among z (suc k) (x ∷ xs) in_ = inr (drop_among z k xs in_)

-- with one more behind the others
pub drop_last : (k : ℕ) (is : List SlogItem) (i : SlogItem) → (m : ℕ) × (drop m (is ++ i ∷ []) ≡ drop k is ++ i ∷ [])
drop_last k [] i = (0, none k)
  where
    none : (k : ℕ) → i ∷ [] ≡ drop k [] ++ i ∷ []
    none zero = refl
    none (suc k) = refl
drop_last zero (a ∷ is) i = (0, refl)
drop_last (suc k) (a ∷ is) i = let further = drop_last k is i in (suc further.0, further.1)

pub last_dropped : (k : ℕ) (is : List SlogItem) (i : SlogItem) → (drop k (is ++ i ∷ []) ≡ drop k is ++ i ∷ []) ⊎ ((drop k (is ++ i ∷ []) ≡ []) × (drop k is ≡ []))
last_dropped zero is i = inl refl
last_dropped (suc zero) [] i = inr (refl, refl)
last_dropped (suc (suc k)) [] i = inr (refl, refl)
last_dropped (suc k) (a ∷ is) i = last_dropped k is i

-- a member that is last, and where else it can be
pub last_or_again : (i : SlogItem) (front rest earlier : List SlogItem) → front ++ i ∷ rest ≡ earlier ++ i ∷ [] → ((rest ≡ []) × (front ≡ earlier)) ⊎ IsAmong i rest
last_or_again i [] rest [] is = inl (tail_same i i rest [] is, refl)
last_or_again i [] rest (b ∷ earlier) is = inr (subst (IsAmong i) (sym (tail_same i b rest (earlier ++ i ∷ []) is)) (the_one i earlier []))
last_or_again i (a ∷ front) rest [] is = absurd (some front (tail_same a i (front ++ i ∷ rest) [] is))
  where
    some : (front : List SlogItem) → front ++ i ∷ rest ≡ [] → ⊥
    some [] is = let long = ap length is in omega (arith, long)
    some (b ∷ front) is = let long = ap length is in omega (arith, long)
last_or_again i (a ∷ front) rest (b ∷ earlier) is =
    ⊎_elim (λ last. inl (last.0, λ k. head_same a b (front ++ i ∷ rest) (earlier ++ i ∷ []) is k ∷ last.1 k)) (λ again. inr again)
    (last_or_again i front rest earlier (tail_same a b (front ++ i ∷ rest) (earlier ++ i ∷ []) is))

-- where a list with one more at its end is cut
pub cut_end : (i c : SlogItem) (items f r : List SlogItem) → items ++ i ∷ [] ≡ f ++ c ∷ r → ((c ≡ i) × (f ≡ items)) ⊎ ((s : List SlogItem) × (items ≡ f ++ c ∷ s))
cut_end i c [] [] r is = inl (sym (head_same i c [] r is), refl)
cut_end i c [] (a ∷ f) r is = absurd (some f (tail_same i a [] (f ++ c ∷ r) is))
  where
    some : (f : List SlogItem) → [] ≡ f ++ c ∷ r → ⊥
    some [] is = let long = ap length is in omega (arith, long)
    some (b ∷ f) is = let long = ap length is in omega (arith, long)
cut_end i c (a ∷ items) [] r is = inr (items, ap (λ x. x ∷ items) (head_same a c (items ++ i ∷ []) r is))
cut_end i c (a ∷ items) (b ∷ f) r is = ⊎_elim
    (λ last. inl (last.0, λ k. sym (head_same a b (items ++ i ∷ []) (f ++ c ∷ r) is) k ∷ last.1 k))
    (λ more. inr (more.0, λ k. head_same a b (items ++ i ∷ []) (f ++ c ∷ r) is k ∷ more.1 k))
    (cut_end i c items f r (tail_same a b (items ++ i ∷ []) (f ++ c ∷ r) is))

-- ---- counts of items

pub counted_member : (test : SlogItem → Bool) (z : SlogItem) (items : List SlogItem) → test z ≡ true → IsAmong z items → 1 ≤ how_many test items
counted_member test z [] is in_ = absurd in_
counted_member test z (a ∷ items) is (inl here) = subst (λ b. 1 ≤ bit b + how_many test items) (sym (ap test (sym here) ∙ is)) (one (how_many test items))
  where
    one : (n : ℕ) → 1 ≤ 1 + n
    one n = omega arith
counted_member test z (a ∷ items) is (inr there) = more (bit (test a)) (how_many test items) (counted_member test z items is there)
  where
    more : (b n : ℕ) → 1 ≤ n → 1 ≤ b + n
    more b n le = omega (arith, le)

pub uncounted : (test : SlogItem → Bool) (items : List SlogItem) → ((z : SlogItem) → IsAmong z items → test z ≡ false) → how_many test items ≡ 0
uncounted test items none = none_pass test items none
